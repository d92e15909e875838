-- What a sound index has for each step on its entries.
use Rattle.std.proofs.Common.{◌≡◌, ℕ, ◌<◌, true}
use Rattle.index_types.specs.declared.Index.{Index}
use Rattle.index_types.specs.Slots.{entry}
use Rattle.index_sound.specs.Sound.{sound_index, Shaped, CountOf}
use Rattle.index_sound.proofs.Exact.{count_tells}
use Rattle.index_entries.specs.Entries.{Queues, Inserts, Removes, slot_of}
use Rattle.index_entries.proofs.Keep.{queue_of, queue_room, slot_fits, free_room}

pub counts_of : (ix : Index) → Shaped ix → sound_index ix ≡ true → CountOf ix.entries ix.free ix.frees ix.dirty ix.queued ix.used
counts_of ix S h = (count_tells ix.entries ix.free ix.frees ix.dirty ix.queued ix.used S.entries_whole S.free_whole S.dirty_whole).0 h

module _ (ix : Index) (S : Shaped ix) (C : CountOf ix.entries ix.free ix.frees ix.dirty ix.queued ix.used) where
  pub queues : (x : ℕ) → x < 512 → Queues ix x
  queues x h = record {
    low = h;
    queue_fits = C.queue_fits;
    queue_room = queue_room ix.dirty ix.queued (queue_of ix.entries ix.free ix.frees ix.dirty ix.queued ix.used C S.entries_whole) S.dirty_whole x h;
  }

  pub inserts : (ix.frees ≡ 0 → ix.used < 512) → Inserts ix
  inserts room =
      let low = slot_fits ix.entries ix.free ix.frees ix.dirty ix.queued ix.used C S.entries_whole S.free_whole S.dirty_whole room in
      record { takes = record { used_fits = C.used_fits; frees_fit = C.free_fits; slot_fits = low }; queues = queues (slot_of ix) low }

  -- of a slot that holds an entry
  pub removes : (x : ℕ) → x < 512 → ((entry ix x).mark ≡ 0 → ⊥) → Removes ix x
  removes x h held = record {
    queues = queues x h;
    free_room = λ _. free_room ix.entries ix.free ix.frees ix.dirty ix.queued ix.used C S.entries_whole x held h S.free_whole;
  }
