-- Two states, one with a chain under an id and one with its piece i, a wall, in its place (`SeenServers`): a line that
-- makes a new shape there leaves them the same, and any other line, an empty one too, leaves them so. Assumes nothing.
use Prim.Native.Nat.{ℕ}
use mathlib.Core.Path.{◌≡◌, refl, ◌∙◌, ap, ap₂}
use mathlib.Core.Bool.{Bool, true, false, cond}
use mathlib.Core.List.{List, [], ◌∷◌}
use mathlib.Core.Logic.{◌⊎◌, inl, inr, ⊎_elim}
use Rattle.lines.specs.Hex.{unhex, frame_of}
use Rattle.record_definitions.specs.declared.server.Server.{Server}
use Rattle.record_definitions.specs.declared.world.World.{World}
use Rattle.record_definitions.specs.declared.frame.Said.{Said}
use Rattle.record_definitions.specs.Server.{next_step, after_line, Framed, Stepped, reply_to}
use Rattle.record_definitions.specs.OneFrame.{said_of_frame}
use Rattle.chains.specs.ChainAsWalls.{piece_alone, piece_reply, tests_first, seen, renews}
use Rattle.chains.proofs.SeenWorlds.{SeenServers}
use Rattle.chains.proofs.Simulation.{one_frame}

module _ (k i : ℕ) (s s' : Server) (same : SeenServers k i s s') where
  abbrev NewLine : List ℕ → Type 0
  NewLine line =
      (renews k s line ≡ true) × (reply_to s' line ≡ reply_to s line) × (after_line s' line ≡ after_line s line)

  abbrev SeenLine : List ℕ → Type 0
  SeenLine line =
      (renews k s line ≡ false) × (reply_to s' line ≡ seen k i s line)
      × SeenServers k i (after_line s line) (after_line s' line)

  framed_reply : (t : Bool) (said : Said)
      → Framed (cond t (piece_alone i said) said) ≡ cond t (piece_reply i (Framed said)) (Framed said)
  framed_reply true said = refl
  framed_reply false said = refl

  pub one_line : (line : List ℕ) → NewLine line ⊎ SeenLine line
  unfolding renews seen frame_of unhex
  one_line [] =
      inr (
        refl,
        ap (λ (steps : ℕ). Stepped (next_step steps)) same.steps,
        record {
          worlds = same.worlds;
          steps = ap next_step same.steps;
        },
      )
  one_line (c ∷ line) =
      let frame = frame_of (c ∷ line) in
      ⊎_elim
      (λ new. inl (
        new.0,
        ap Framed new.1,
        ap₂ (λ (w : World) (steps : ℕ). record { world = w; steps = steps }) new.2 same.steps,
      ))
      (λ old. inr (
        old.0,
        ap Framed old.1 ∙ framed_reply (tests_first k (c ∷ line)) (said_of_frame s.world frame),
        record { worlds = old.2; steps = same.steps },
      ))
      (one_frame k i s.world s'.world same.worlds frame)
