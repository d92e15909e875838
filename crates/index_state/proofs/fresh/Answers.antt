use mathlib.Core.Path.{refl}
use lib.Ieee.{of_bits, of_fields, odd}
use Rattle.index_state.specs.Index.{fresh_index}
use Rattle.index_state.proofs.fresh.Goals as goal

pub returns : goal.returns
unfolding fresh_index of_bits of_fields odd
returns c = refl
