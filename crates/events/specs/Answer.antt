-- What the functions of the event step answer, in the words of `Monitor.antt`.
-- Assumes nothing.
use Rattle.refusal.specs.Refusal.{said}
use Rattle.events.specs.Monitor.{EventStep, reported}
use Rattle.events.specs.declared.Taken.{Taken}

-- what is left of the record and reported, a refusal by its number
abbrev pub step_of : Taken → EventStep
step_of t = reported t.left (said t.report)
