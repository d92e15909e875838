-- What a sheet prints of a tap: the place hit and its depth, or 0 and 0.
use Rattle.plan.specs.Afresh.{Tap}
use Rattle.sheet_calls.specs.Answers.{place_hit, depth_hit}
use Rattle.sheet_answers.specs.declared.taps.Answered.{Answered}

abbrev pub answered : Tap → Answered
answered t = record { place = place_hit t; depth = depth_hit t }
