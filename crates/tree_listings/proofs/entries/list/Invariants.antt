use Rattle.tree_listings.proofs.entries.Entries.{Listing, id_of, takes}
use Rattle.tree_listings.proofs.entries.list.Given as goal

-- of the entries so far those that are taken stand in front of the room
abbrev pub invariant-loop-entry : goal.invariant-loop-entry
invariant-loop-entry l = Listing (id_of l.tree) (takes l.tree l.asked l.given) l.fn.room l.room l.count l.entry
