-- Refused as any frame is, or by the kind. Assumes nothing.
use mathlib.Core.Path.{sym, ◌∙◌}
use Rattle.std.proofs.lemmas.Result.{err_from_is_err_and}
use Rattle.shape_definitions.proofs.Numbers.{no_acceptance}
use Rattle.frames.proofs.FrameLengths.{circle_room, outline_room, wall_room, place_room, turn_room}
use Rattle.frames.proofs.FrameLengths.{chain_room, kind_left}
use Rattle.frames.proofs.ByKind.{refused_frame, well, circle_is, outline_is, wall_is, place_is, turn_is}
use Rattle.frames.proofs.ByKind.{chain_is}
use Rattle.frames.proofs.frame.body_frame.Goals as goal

pub returns-in_err-check_frame : goal.returns-in_err-check_frame
returns-in_err-check_frame c =
    let gone = err_from_is_err_and c.from_residual.result c.from_residual.ensures.1 in
    λ b pair. rw (gone.1, gone.2) (refused_frame _ b pair _ _ c.in_err-check_frame.ensures (no_acceptance _))

pub circle_frame-requires : goal.circle_frame-requires
circle_frame-requires c = circle_room _ (well _ c.in_ok-check_frame.ensures) (sym c.byte-kind.ensures ∙ c.in-1.is)

pub outline_frame-requires : goal.outline_frame-requires
outline_frame-requires c = outline_room _ (well _ c.in_ok-check_frame.ensures) (sym c.byte-kind.ensures ∙ c.in-2.is)

pub wall_frame-requires : goal.wall_frame-requires
wall_frame-requires c = wall_room _ (well _ c.in_ok-check_frame.ensures) (sym c.byte-kind.ensures ∙ c.in-3.is)

pub place_frame-requires : goal.place_frame-requires
place_frame-requires c = place_room _ (well _ c.in_ok-check_frame.ensures) (sym c.byte-kind.ensures ∙ c.in-4.is)

pub turn_frame-requires : goal.turn_frame-requires
turn_frame-requires c =
    let six = sym c.byte-kind.ensures ∙ c.in-6.is in
    (turn_room _ (well _ c.in_ok-check_frame.ensures) six, c.requires.1 six)

pub chain_frame-requires : goal.chain_frame-requires
chain_frame-requires c =
    let rest = c.in_default.in_default-own.rest in
    let formed = well _ c.in_ok-check_frame.ensures in
    let seven = kind_left _ formed _ c.byte-kind.ensures rest.0.0.0.0.1 rest.0.0.0.1 rest.0.0.1 rest.0.1
    c.requires.0 rest.1 in
    chain_room _ formed (sym c.byte-kind.ensures ∙ seven)

pub returns-in-1 : goal.returns-in-1
returns-in-1 c =
    λ b pair. c.circle_frame.ensures _ pair
    ∙ circle_is _ b pair _ c.in_ok-check_frame.ensures _ c.byte-kind.ensures c.in-1.is

pub returns-in-2 : goal.returns-in-2
returns-in-2 c =
    λ b pair. c.outline_frame.ensures _ pair
    ∙ outline_is _ b pair _ c.in_ok-check_frame.ensures _ c.byte-kind.ensures c.in-2.is

pub returns-in-3 : goal.returns-in-3
returns-in-3 c =
    λ b pair. c.wall_frame.ensures _ pair
    ∙ wall_is _ b pair _ c.in_ok-check_frame.ensures _ c.byte-kind.ensures c.in-3.is

pub returns-in-4 : goal.returns-in-4
returns-in-4 c =
    λ b pair. c.place_frame.ensures pair
    ∙ place_is _ b pair _ c.in_ok-check_frame.ensures _ c.byte-kind.ensures c.in-4.is

pub returns-in-6 : goal.returns-in-6
returns-in-6 c =
    λ b pair. c.turn_frame.ensures pair
    ∙ turn_is _ b pair _ c.in_ok-check_frame.ensures _ c.byte-kind.ensures c.in-6.is

pub returns-in_default : goal.returns-in_default
returns-in_default c =
    let rest = c.in_default.in_default-own.rest in
    let seven = kind_left _ (well _ c.in_ok-check_frame.ensures) _ c.byte-kind.ensures rest.0.0.0.0.1 rest.0.0.0.1
    rest.0.0.1 rest.0.1 c.requires.0 rest.1 in
    λ b pair. c.chain_frame.ensures _ pair
    ∙ chain_is _ b pair _ c.in_ok-check_frame.ensures _ c.byte-kind.ensures seven
