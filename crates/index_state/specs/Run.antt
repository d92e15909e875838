-- Any list of calls on one index, each given the index that the call before returned.
use Rattle.std.specs.Prelude.{List, [], ◌∷◌}
use Rattle.index_types.specs.declared.Index.{Index}
use Rattle.index_state.specs.Calls.{Call, after}

unfoldable pub run : Index → List Call → Index
run ix [] = ix
run ix (c ∷ cs) = run (after ix c) cs
