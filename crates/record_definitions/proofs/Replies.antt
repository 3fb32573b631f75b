-- A line that has a character is its frame: the state after it, and the reply. Assumes nothing.
use Prim.Native.Nat.{ℕ}
use mathlib.Core.Path.{◌≡◌, refl}
use mathlib.Core.List.{List, [], ◌∷◌}
use native.Mathlib.Omega.{arith}
use lib.ListN.{length}
use Rattle.lines.specs.Hex.{frame_of}
use Rattle.record_definitions.specs.declared.server.Server.{Server}
use Rattle.record_definitions.specs.declared.frame.Said.{Said}
use Rattle.record_definitions.specs.OneFrame.{after_frame, said_of_frame}
use Rattle.record_definitions.specs.Server.{after_line, Framed, reply_to}

pub after_framed : (s : Server) (line : List ℕ) → (length line ≡ 0 → ⊥)
    → after_line s line ≡ record { world = after_frame s.world (frame_of line); steps = s.steps }
after_framed s [] some = absurd (some refl)
after_framed s (c ∷ line) some = refl

pub reply_framed : (s : Server) (line : List ℕ) → (length line ≡ 0 → ⊥)
    → reply_to s line ≡ Framed (said_of_frame s.world (frame_of line))
reply_framed s [] some = absurd (some refl)
reply_framed s (c ∷ line) some = refl

-- a reply that says something of a frame
pub said_framed : (s : Server) (line : List ℕ) (said : Said) → reply_to s line ≡ Framed said
    → (said ≡ said_of_frame s.world (frame_of line))
    × (after_line s line ≡ record { world = after_frame s.world (frame_of line); steps = s.steps })
said_framed s [] said is =
    let never : ◌≡◌ {A = ℕ} 0 1 = cc in
    absurd (omega arith)
said_framed s (c ∷ line) said is = (cc, refl)
