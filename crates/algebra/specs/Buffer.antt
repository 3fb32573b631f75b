-- A lent buffer that is written from its front, part after part. Definitions only.
use Rattle.std.specs.Prelude.{List, ◌++◌, length, drop}

-- new at the front of old, the rest of old as it was
abbrev pub over : {A : Type 0} → List A → List A → List A
over new old = new ++ drop (length new) old
