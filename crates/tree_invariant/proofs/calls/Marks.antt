-- Marks after a call: the slot's own are set, and the others stay.
use mathlib.Core.Path.{◌≡◌, refl, ap, ◌∙◌}
use mathlib.Core.Bool.{true}
use mathlib.Core.List.{List}
use Prim.Native.Nat.{ℕ, ◌<◌}
use native.Mathlib.Omega.{arith}
use native.Mathlib.Decide.{ℕ_discrete}
use lib.ListN.{length, set, length-set}
use lib.Seq.{get_or-set_same, get_or-set_other}
use Rattle.tree_state.specs.declared.Dirty.{Dirty}
use Rattle.tree_state.specs.Tree.{no_dirty, dirty}
use Rattle.tree_steps.specs.Setters.{marked_alone, marked_transform, marked_clip, marked_both, mark_alone, mark_transform, mark_clip, mark_both}

-- m after a call that marks the slot x
pub record Marking (l m : List Dirty) (x : ℕ) : Type 0 where
  pub whole : length m ≡ 256
  pub marked : (dirty m x).marked ≡ true
  pub transform : (dirty l x).transform ≡ true → (dirty m x).transform ≡ true
  pub clip : (dirty l x).clip ≡ true → (dirty m x).clip ≡ true
  pub other : (y : ℕ) → (y ≡ x → ⊥) → dirty m y ≡ dirty l y

-- what soundness asks of a slot's marks: what counted as changed still does, and has a mark
pub record Grown (b d : Dirty) : Type 0 where
  pub transform : b.transform ≡ true → d.transform ≡ true
  pub clip : b.clip ≡ true → d.clip ≡ true
  pub transform_marked : d.transform ≡ true → d.marked ≡ true
  pub clip_marked : d.clip ≡ true → d.marked ≡ true

pub grown : (l m : List Dirty) (x : ℕ) → Marking l m x → (y : ℕ) → ((dirty l y).transform ≡ true → (dirty l y).marked ≡ true)
    → ((dirty l y).clip ≡ true → (dirty l y).marked ≡ true) → Grown (dirty l y) (dirty m y)
grown l m x M y a b =
    elim (ℕ_discrete y x) [
      | yes e ↦ rw e (record { transform = M.transform; clip = M.clip; transform_marked = λ _. M.marked; clip_marked = λ _. M.marked })
      | no n ↦ rw (M.other y n) (record { transform = λ h. h; clip = λ h. h; transform_marked = a; clip_marked = b })
    ]

module _ (m : List Dirty) (x : ℕ) (w : length m ≡ 256) (low : x < 256) where
  pub dirty_here : (d : Dirty) → dirty (set m x d) x ≡ d
  dirty_here d = get_or-set_same m x d no_dirty (omega arith)

  marking : (d : Dirty) → d.marked ≡ true → ((dirty m x).transform ≡ true → d.transform ≡ true) → ((dirty m x).clip ≡ true → d.clip ≡ true)
      → Marking m (set m x d) x
  marking d a b c =
      record {
        whole = length-set m x d ∙ w;
        marked = ap (λ (e : Dirty). e.marked) (dirty_here d) ∙ a;
        transform = λ h. ap (λ (e : Dirty). e.transform) (dirty_here d) ∙ b h;
        clip = λ h. ap (λ (e : Dirty). e.clip) (dirty_here d) ∙ c h;
        other = λ y n. get_or-set_other m x y d no_dirty n;
      }

  pub alone : Marking m (mark_alone m x) x
  alone = marking (marked_alone (dirty m x)) refl (λ h. h) (λ h. h)

  pub in_transform : Marking m (mark_transform m x) x
  in_transform = marking (marked_transform (dirty m x)) refl (λ _. refl) (λ h. h)

  pub in_clip : Marking m (mark_clip m x) x
  in_clip = marking (marked_clip (dirty m x)) refl (λ h. h) (λ _. refl)

  pub in_both : Marking m (mark_both m x) x
  in_both = marking marked_both refl (λ _. refl) (λ _. refl)
