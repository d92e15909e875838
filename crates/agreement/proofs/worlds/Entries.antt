-- The entries through the reworks of a list of places: each visited node is committed, and each committed live node's entry has its stored
-- hit box, or one equal as numbers.
use mathlib.Core.Path.{◌≡◌, refl, sym, ap, ◌∙◌}
use mathlib.Core.Bool.{Bool, true, false}
use mathlib.Core.List.{List, [], ◌∷◌, map}
use Prim.Native.Nat.{ℕ, ◌≤◌, ◌<◌}
use native.Mathlib.Omega.{arith}
use native.Mathlib.Decide.{ℕ_discrete}
use Rattle.index_types.specs.Slots.{entry_in}
use Rattle.geometry.specs.Rectangle.{rect_eq}
use Rattle.counting.specs.Times.{times}
use Rattle.counting.proofs.Counting.{hit, miss}
use Rattle.index_types.specs.declared.NodeId.{NodeId}
use Rattle.tree_types.specs.Local.{rect_to_aabb}
use Rattle.link_forest.specs.Forest.{Forest, has}
use Rattle.index_sound.proofs.Exact.{counted}
use Rattle.link_table.specs.declared.Links.{Links}
use Rattle.index_state.specs.Index.{slot_of}
use Rattle.tree_state.specs.declared.IndexKey.{IndexKey}
use Rattle.tree_state.specs.declared.Tree.{Tree}
use Rattle.tree_state.specs.Tree.{index_key, committed_at, key_at, stored_hit_bounds}
use Rattle.tree_state.specs.Tree as tree
use Rattle.tree_state.specs.Sound.{SoundTree, Owns}
use Rattle.tree_state.specs.Whole.{Whole}
use Rattle.tree_laws.proofs.Ground.{Linked, low, slot_live, live_has}
use Rattle.tree_steps.specs.Commit.{Work, new_place, new_hit_bounds, new_world, reworked, rework, rework_all, enter_keys}
use Rattle.agreement.specs.Afresh.{Alike}
use Rattle.link_forest.proofs.Bools.{never}
use Rattle.agreement.proofs.worlds.Visits.{slot_at, Good}
use Rattle.agreement.proofs.worlds.Keyed.{KeyedTree, keyed_turn, committed_now, keys_stay}

-- each committed live node's entry has its stored hit box, or one equal as numbers
abbrev pub Entered : Tree → Forest → Type 0
Entered t f =
    (x : ℕ) → has x f ≡ true → committed_at t x ≡ true → Alike (entry_in t.index.entries (key_at t x).0).aabb (rect_to_aabb (stored_hit_bounds t x))

-- ---- a sound tree's keys
module _ (t : Tree) (f : Forest) (W : Whole t) (S : SoundTree t) (L : Linked t f) where
  owns : (x : ℕ) → has x f ≡ true → committed_at t x ≡ true → Owns t x (key_at t x).0
  owns x h c = S.committed x (live_has t f L x ∙ h) c

  pub keyed_sound : Entered t f → KeyedTree t f
  keyed_sound E =
      record {
        keys = W.keys;
        index = W.index;
        worlds = W.worlds;
        counts = counted t.index.entries t.index.free t.index.frees t.index.dirty t.index.queued t.index.used W.index.entries W.index.free W.index.dirty S.index;
        held = λ x h c. ((owns x h c).is_entry, λ e. omega (arith, (owns x h c).unmarked));
        apart = λ x y h g c d e. let u : tree.id_at t x ≡ tree.id_at t y = sym (owns x h c).carries ∙ ap (λ (n : ℕ). (entry_in t.index.entries n).payload) e ∙ (owns y g d).carries in ap (λ (i : NodeId). i.0) u;
        boxed = E;
      }

-- ---- at each turn a node without an entry finds a slot for one
abbrev pub Fitting : Work → List ℕ → Type 0
Fitting k [] = Unit {0}
Fitting k (i ∷ is) = (committed_at k.tree (slot_at k.tree.links i) ≡ false → slot_of k.tree.index < 512) × Fitting (rework k i) is

-- each place is a node's
abbrev pub Inside : Links → List ℕ → Type 0
Inside l [] = Unit {0}
Inside l (i ∷ is) = (i < l.count) × Inside l is

pub good_inside : (l : Links) (changed : ℕ → Bool) (f : Forest) (seen is : List ℕ) → Good l changed f seen is → Inside l is
good_inside l changed f seen [] g = tt
good_inside l changed f seen (i ∷ is) g = (g.0, good_inside l changed f (slot_at l i ∷ seen) is g.2)

-- ---- the fold
pub record Entries (t : Tree) (f : Forest) (vs : List ℕ) (r : Tree) : Type 0 where
  pub keyed : KeyedTree r f
  pub visited : (y : ℕ) → 1 ≤ times y vs → committed_at r y ≡ true
  pub stays : (y : ℕ) → committed_at t y ≡ true → committed_at r y ≡ true
  pub key_stays : (y : ℕ) → committed_at t y ≡ true → key_at r y ≡ key_at t y
  pub rest : (y : ℕ) → times y vs ≡ 0 → (committed_at r y ≡ committed_at t y) × (key_at r y ≡ key_at t y)

own_key : (t : Tree) (x : ℕ) (b : Bool) → b ≡ true → (index_key (enter_keys b t x) x).key ≡ key_at t x
own_key t x true e = refl
own_key t x false e = never e refl

-- one turn
module _ (t : Tree) (f : Forest) (L : Linked t f) (K : KeyedTree t f) (i x : ℕ) (h : has x f ≡ true) (fits : committed_at t x ≡ false → slot_of t.index < 512) where
  abbrev after : Tree
  after = reworked t x (new_place t i x)

  pub turn_keyed : KeyedTree after f
  turn_keyed =
      keyed_turn t f (low t f L) K x h (new_world t x (new_place t i x)) (committed_at t x) (rect_eq (stored_hit_bounds t x) (new_hit_bounds t x (new_place t i x))) refl refl fits

  pub turn_now : committed_at after x ≡ true
  turn_now = committed_now t f (low t f L) K x h (new_world t x (new_place t i x)) (committed_at t x) refl

  pub turn_committed : (y : ℕ) → (y ≡ x → ⊥) → committed_at after y ≡ committed_at t y
  turn_committed y n = ap (λ (i : IndexKey). i.committed) (keys_stay t x y n (committed_at t x))

  turn_stays : (y : ℕ) → committed_at t y ≡ true → committed_at after y ≡ true
  turn_stays y c = elim (ℕ_discrete y x) [ yes e ↦ rw e turn_now | no n ↦ turn_committed y n ∙ c ]

  pub turn_other : (y : ℕ) → (y ≡ x → ⊥) → key_at after y ≡ key_at t y
  turn_other y n = ap (λ (i : IndexKey). i.key) (keys_stay t x y n (committed_at t x))

  turn_key : (y : ℕ) → committed_at t y ≡ true → key_at after y ≡ key_at t y
  turn_key y c =
      elim (ℕ_discrete y x) [ yes e ↦ rw (e, own_key t x (committed_at t x) (rw e at c)) | no n ↦ turn_other y n ]

-- one turn more in front
module _ (t u r : Tree) (f : Forest) (x : ℕ) (vs : List ℕ) where
  entries_on : committed_at u x ≡ true → ((y : ℕ) → (y ≡ x → ⊥) → (committed_at u y ≡ committed_at t y) × (key_at u y ≡ key_at t y)) → ((y : ℕ) → committed_at t y ≡ true → (committed_at u y ≡ true) × (key_at u y ≡ key_at t y))
      → Entries u f vs r → Entries t f (x ∷ vs) r
  unfolding times
  entries_on now same stay R =
      record {
        keyed = R.keyed;
        visited = λ y h. elim (ℕ_discrete y x) [ yes e ↦ R.stays y (rw e now) | no n ↦ R.visited y (omega (arith, miss y x n)) ];
        stays = λ y c. R.stays y (stay y c).0;
        key_stays = λ y c. R.key_stays y (stay y c).0 ∙ (stay y c).1;
        rest = λ y h. elim (ℕ_discrete y x) [
          | yes e ↦ absurd (omega (arith, hit x, rw e at h))
          | no n ↦ let z : times y vs ≡ 0 = omega arith in ((R.rest y z).0 ∙ (same y n).0, (R.rest y z).1 ∙ (same y n).1)
        ];
      }

pub entries_ran : (f : Forest) (is : List ℕ) (k : Work) → Linked k.tree f → KeyedTree k.tree f → Inside k.tree.links is → Fitting k is
    → Entries k.tree f (map (slot_at k.tree.links) is) (rework_all k is).tree
unfolding rework_all rework times
entries_ran f [] k L K I F =
    record { keyed = K; visited = λ y h. absurd (omega arith); stays = λ y c. c; key_stays = λ y c. refl; rest = λ y h. (refl, refl) }
entries_ran f (i ∷ is) k L K I F =
    let t = k.tree in
    let x = slot_at t.links i in
    let h = slot_live t f L i I.0 in
    entries_on t (rework k i).tree (rework_all k (i ∷ is)).tree f x (map (slot_at t.links) is)
    (turn_now t f L K i x h F.0)
    (λ y n. (turn_committed t f L K i x h F.0 y n, turn_other t f L K i x h F.0 y n))
    (λ y c. (turn_stays t f L K i x h F.0 y c, turn_key t f L K i x h F.0 y c))
    (entries_ran f is (rework k i) L (turn_keyed t f L K i x h F.0) I.1 F.1)
