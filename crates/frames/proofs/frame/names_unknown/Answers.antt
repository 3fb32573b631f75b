-- Both ids of a test, the one of another frame. Assumes nothing.
use borrow.Author.Tests.{eq-eqb, ne_eqb, lt-ltb, le-ltb}
use Rattle.frames.proofs.frame.names_unknown.Goals as goal

pub returns-then-byte-gt-LARGEST_ID : goal.returns-then-byte-gt-LARGEST_ID
returns-then-byte-gt-LARGEST_ID c =
    let byte = c.byte in
    simp (lt-ltb _ _ (rw byte.ensures at c.if-byte-gt-LARGEST_ID.true))

pub returns-then-byte-eq5 : goal.returns-then-byte-eq5
returns-then-byte-eq5 c =
    let if2 = c.if-byte-eq5 in
    let byte2 = c.byte-2 in
    let if1 = c.if-byte-gt-LARGEST_ID in
    let byte = c.byte in
    simp (
      le-ltb _ _ (rw byte.ensures at if1.false),
      eq-eqb _ _ (rw byte2.ensures at if2.true),
      c.byte-then-byte-eq5.ensures,
    )

pub returns : goal.returns
returns c =
    let byte2 = c.byte-2 in
    let if1 = c.if-byte-gt-LARGEST_ID in
    let byte = c.byte in
    simp (le-ltb _ _ (rw byte.ensures at if1.false), ne_eqb _ _ (rw byte2.ensures at c.if-byte-eq5.false))
