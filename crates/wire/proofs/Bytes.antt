-- Writing words: the words written so far grow by one. Assumes nothing.
use Prim.Native.Nat.{ℕ, ◌+◌, ◌-◌, ◌*◌, ◌≤◌, ◌<◌}
use mathlib.Core.Path.{◌≡◌, refl, sym, ◌∙◌, ap, ap₂, subst}
use mathlib.Core.List.{List, [], ◌∷◌, ◌++◌}
use mathlib.Core.Bool.{Bool, true, false}
use native.Mathlib.Omega.{arith}
use native.Mathlib.Numerals.{add-one}
use lib.ListN.{length, take, get_or}
use lib.Seq.{take-suc, take-length, length-take-le}
use borrow.Author.Tests.{le-leb, lt-leb}
use borrow.Rule.Slice.PartMut.{put_mid, mid_of}
use mir.Val.{bool_byte}
use Rattle.std.specs.Prelude.{Result, Ok, Err}
use Rattle.std.specs.Result.{result_unwrap_or}
use Rattle.shape_definitions.specs.declared.refusal.Refusal.{Refusal}
use Rattle.shape_definitions.specs.Refusal.{refusal_number, made_or}
use Rattle.algebra.specs.Buffer.{over}
use Rattle.algebra.proofs.Buffer.{over_next}
use Rattle.lines.specs.Fields.{number_bytes}
use Rattle.wire.specs.declared.answers.Answered.{Answered}
use Rattle.wire.specs.Answers.{flag}
use Rattle.wire.specs.Words.{bytes_of, written, written_count, Written}

-- a flag is the byte of a bool
pub flag_is : (b : Bool) → bool_byte b ≡ flag b
flag_is false = refl
flag_is true = refl

bytes_append : (ws : List ℕ) (w : ℕ) → bytes_of (ws ++ (w ∷ [])) ≡ bytes_of ws ++ number_bytes w
unfolding bytes_of
bytes_append [] w = refl
bytes_append (x ∷ ws) w = rw (bytes_append ws w)

pub length_bytes : (ws : List ℕ) → length (bytes_of ws) ≡ 4 * length ws
unfolding bytes_of
length_bytes [] = refl
length_bytes (w ∷ ws) = omega (arith, length_bytes ws)

-- the bytes of the first i words, and of one more
bytes_next : (ws : List ℕ) (i : ℕ) → i < length ws → bytes_of (take (i + 1) ws)
    ≡ bytes_of (take i ws) ++ number_bytes (get_or ws i 0)
bytes_next ws i h =
    ap (λ (n : ℕ). bytes_of (take n ws)) (add-one i)
    ∙ ap bytes_of (take-suc ws i 0 h)
    ∙ bytes_append (take i ws) (get_or ws i 0)

-- one more word is written behind the first i
pub word_written : (ws old buffer part : List ℕ) (i : ℕ) → i < length ws → buffer ≡ over (bytes_of (take i ws)) old
    → part ≡ over (number_bytes (get_or ws i 0)) (mid_of (4 * i) (length buffer - 4 * i) buffer)
    → put_mid (4 * i) (length buffer - 4 * i) buffer part ≡ over (bytes_of (take (i + 1) ws)) old
word_written ws old buffer part i within before_written part_written =
    let so_far : length (bytes_of (take i ws)) ≡ 4 * i =
    length_bytes (take i ws) ∙ ap (λ (n : ℕ). 4 * n) (length-take-le i ws (omega arith)) in
    over_next (bytes_of (take i ws)) (number_bytes (get_or ws i 0)) old buffer part (4 * i) so_far before_written
    part_written
    ∙ ap (λ (bytes : List ℕ). over bytes old) (sym (bytes_next ws i within))

-- room for all the words, and too little room
pub written_whole : (ws out buffer : List ℕ) (i : ℕ) → i ≡ length ws → 4 * length ws ≤ length out
    → buffer ≡ over (bytes_of (take i ws)) out → Written ws out (length ws) buffer
unfolding written written_count
written_whole ws out buffer i all room so_far = record {
  count = simp (le-leb _ _ room);
  left = so_far ∙ ap (λ (n : ℕ). over (bytes_of (take n ws)) out) all ∙ simp (le-leb _ _ room, take-length ws);
}

pub written_none : (ws out : List ℕ) → length out < 4 * length ws → Written ws out 0 out
unfolding written written_count
written_none ws out short = record { count = simp (lt-leb _ _ short); left = simp (lt-leb _ _ short) }

-- no words: the answer to a malformed request
pub nothing_written : (ws out : List ℕ) → ws ≡ [] → Written ws out 0 out
unfolding written written_count bytes_of
nothing_written ws out none =
    let room : 4 * 0 ≤ length out = omega arith in
    subst (λ (l : List ℕ). Written l out 0 out) (sym none)
    (record { count = simp (le-leb (4 * 0) (length out) room); left = simp (le-leb (4 * 0) (length out) room) })

-- the words written are those of the definition
pub written_as : (ws answer out : List ℕ) (r : ℕ) (after : List ℕ) → ws ≡ answer → Written ws out r after
    → Written answer out r after
written_as ws answer out r after same h = subst (λ (l : List ℕ). Written l out r after) same h

-- what a call made, or where it is refused what was given
pub made_is : {T : Type 0} (given : T) (answer : Result T Refusal)
    → result_unwrap_or answer given ≡ made_or given answer
made_is given (Ok x) = refl
made_is given (Err why) = refl

-- the words of a call's answer, as `Answered::of` makes it
pub answered_words : {T : Type 0} (words_of : T → List ℕ) (given : T) (answer : Result T Refusal) (a : Answered T)
    → (a.refusal ≡ refusal_number answer) × (a.after ≡ made_or given answer)
    → a.refusal ∷ words_of a.after ≡ refusal_number answer ∷ words_of (made_or given answer)
answered_words words_of given answer a is = ap₂ ◌∷◌ is.0 (ap words_of is.1)
