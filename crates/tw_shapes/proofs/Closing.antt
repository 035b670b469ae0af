-- Parts that are put into arrows that are begun.
use Rattle.std.proofs.Common.{◌≡◌, ℕ, ◌+◌, ◌<◌, ◌≤◌, List, [], ◌∷◌, ◌++◌, map, length, None, arith, refl, sym, ap, ◌∙◌, subst}
use Rattle.std.proofs.lemmas.List.{reverse-append}
use Rattle.lf.specs.Syntax.{Skeleton}
use Rattle.tw_shapes.specs.Shapes.{Shape, variable, base, arrow, AllVariables, IsWithin, Solves, Store, filled, value_of}
use Rattle.tw_shapes.specs.Building.{Begun, before, behind, Built, whole, next, put_into, closed, AllBuilt, AllLeft, IsLeaf, length_left, walk_left}
use Rattle.tw_shapes.specs.BuildingView.{arrows_of, begun_of}
use Rattle.tw_shapes.specs.declared.building.Begun.{Begun as BegunValue}
use Rattle.tw_shapes.proofs.Views.{shapes}
use Rattle.tw_shapes.specs.Order.{length_of_walk, walk}

-- the newest stands in front
pub one-more : (bs : List BegunValue) (b : BegunValue) → arrows_of (bs ++ b ∷ []) ≡ begun_of b ∷ arrows_of bs
one-more bs b = ap (map begun_of) (reverse-append bs (b ∷ []))

pub ruleset building = (shapes, one-more)

-- what is put into them is the same where it is the same itself
pub filled-into : (θ : ℕ → Skeleton) (bs : List Begun) (S T : Shape) → filled θ S ≡ filled θ T → filled θ (put_into bs S) ≡ filled θ (put_into bs T)
filled-into θ [] S T e = e
filled-into θ (before U ∷ bs) S T e = filled-into θ bs (arrow S U) (arrow T U) cc
filled-into θ (behind U ∷ bs) S T e = filled-into θ bs (arrow U S) (arrow U T) cc

-- what is left to be built, of what closes
abbrev pub left_of : Built → List Begun → Shape
left_of (whole S) bs = S
left_of (next T) bs = put_into bs T

pub closed-whole : (bs : List Begun) (S : Shape) → left_of (closed bs S).1 (closed bs S).0 ≡ put_into bs S
closed-whole [] S = refl
closed-whole (before T ∷ bs) S = refl
closed-whole (behind T ∷ bs) S = closed-whole bs (arrow T S)

abbrev pub AllClosed : (ℕ → Type 0) → Built → List Begun → Type 0
AllClosed P (whole S) bs = AllVariables P S
AllClosed P (next T) bs = AllBuilt P bs

pub closed-all : (P : ℕ → Type 0) (bs : List Begun) (S : Shape) → AllBuilt P bs → AllVariables P S → AllClosed P (closed bs S).1 (closed bs S).0
closed-all P [] S h p = p
closed-all P (before T ∷ bs) S h p = (p, h)
closed-all P (behind T ∷ bs) S h p = closed-all P bs (arrow T S) h.1 (h.0, p)

abbrev pub AllNext : (ℕ → Type 0) → Built → List Begun → Type 0
AllNext P (whole S) bs = Unit {0}
AllNext P (next T) bs = AllVariables P T × AllLeft P bs

pub closed-left : (P : ℕ → Type 0) (bs : List Begun) (S : Shape) → AllLeft P bs → AllNext P (closed bs S).1 (closed bs S).0
closed-left P [] S h = tt
closed-left P (before T ∷ bs) S h = h
closed-left P (behind T ∷ bs) S h = closed-left P bs (arrow T S) h

abbrev pub Shrinks : (ℕ → ℕ) → ℕ → Built → List Begun → Type 0
Shrinks r n (whole S) bs = Unit {0}
Shrinks r n (next T) bs = walk r T + walk_left r bs ≤ n

pub closed-less : (r : ℕ → ℕ) (bs : List Begun) (S : Shape) → Shrinks r (walk_left r bs) (closed bs S).1 (closed bs S).0
closed-less r [] S = tt
closed-less r (before T ∷ bs) S = omega arith
closed-less r (behind T ∷ bs) S = closed-less r bs (arrow T S)

pub walk-some : (r : ℕ → ℕ) (S : Shape) → 0 < walk r S
walk-some r (variable m) = omega arith
walk-some r (base c) = omega arith
walk-some r (arrow S T) = omega arith

-- on the way to a leaf: a shape T that stands behind the arrows that are begun
pub record Reached (s : Store) (old : List Begun) (S : Shape) (new : List Begun) (T : Shape) : Type 0 where
  pub same : (θ : ℕ → Skeleton) → Solves θ s → filled θ (put_into new T) ≡ filled θ (put_into old S)
  pub built : AllBuilt (λ n. value_of s n ≡ None) old → AllBuilt (λ n. value_of s n ≡ None) new
  pub built_within : AllBuilt (λ n. n < length s.places) old → AllBuilt (λ n. n < length s.places) new
  pub left_within : AllLeft (λ n. n < length s.places) old → IsWithin (length s.places) S → AllLeft (λ n. n < length s.places) new × IsWithin (length s.places) T
  pub shorter : length_of_walk s T + length_left s new ≤ length_of_walk s S + length_left s old

pub reached-none : (s : Store) (bs : List Begun) (S : Shape) → Reached s bs S bs S
reached-none s bs S = record { same = λ θ h. refl; built = λ h. h; built_within = λ h. h; left_within = λ h w. (h, w); shorter = omega arith }

-- where bindings are followed from T to an arrow, its domain comes next
pub reached-domain : (s : Store) (old : List Begun) (S : Shape) (new : List Begun) (T U V : Shape) → Reached s old S new T → ((θ : ℕ → Skeleton) → Solves θ s → filled θ (arrow U V) ≡ filled θ T)
    → (IsWithin (length s.places) T → IsWithin (length s.places) (arrow U V)) → length_of_walk s (arrow U V) ≤ length_of_walk s T → Reached s old S (before V ∷ new) U
reached-domain s old S new T U V r same within shorter = record {
  same = λ θ h. filled-into θ new (arrow U V) T (same θ h) ∙ r.same θ h;
  built = r.built;
  built_within = r.built_within;
  left_within = λ h w. let p = r.left_within h w in let q = within p.1 in ((q.1, p.0), q.0);
  shorter = let e = r.shorter in omega arith;
}

pub reached-arrow : (s : Store) (old : List Begun) (S : Shape) (new : List Begun) (T F U V : Shape) → F ≡ arrow U V → Reached s old S new T → ((θ : ℕ → Skeleton) → Solves θ s → filled θ F ≡ filled θ T)
    → (IsWithin (length s.places) T → IsWithin (length s.places) F) → length_of_walk s F ≤ length_of_walk s T → Reached s old S (before V ∷ new) U
reached-arrow s old S new T F U V e r same within shorter =
    reached-domain s old S new T U V r (λ θ h. sym (ap (filled θ) e) ∙ same θ h) (λ w. subst (IsWithin (length s.places)) e (within w)) (subst (λ G. length_of_walk s G ≤ length_of_walk s T) e shorter)

-- a leaf
pub reached-leaf : (s : Store) (old : List Begun) (S : Shape) (new : List Begun) (T U : Shape) → Reached s old S new T → ((θ : ℕ → Skeleton) → Solves θ s → filled θ U ≡ filled θ T)
    → (IsWithin (length s.places) T → IsWithin (length s.places) U) → length_of_walk s U ≤ length_of_walk s T → AllVariables (λ n. value_of s n ≡ None) U → IsLeaf s old S new U
reached-leaf s old S new T U r same within shorter free = record {
  same = λ θ h. filled-into θ new U T (same θ h) ∙ r.same θ h;
  free = free;
  built = r.built;
  built_within = r.built_within;
  left_within = λ h w. let p = r.left_within h w in (p.0, within p.1);
  shorter = let e = r.shorter in omega arith;
}

-- what is closed: the whole, or an arrow of which the range comes next
module _ (bs cs : List Begun) (S V : Shape) (e : (cs, whole V) ≡ closed bs S) where
  pub whole-put : V ≡ put_into bs S
  whole-put = ap (λ (p : List Begun × Built). left_of p.1 p.0) e ∙ closed-whole bs S

  pub whole-all : (P : ℕ → Type 0) → AllBuilt P bs → AllVariables P S → AllVariables P V
  whole-all P h p = subst (λ (q : List Begun × Built). AllClosed P q.1 q.0) (sym e) (closed-all P bs S h p)

module _ (bs cs : List Begun) (S T : Shape) (e : (cs, next T) ≡ closed bs S) where
  pub next-put : put_into cs T ≡ put_into bs S
  next-put = ap (λ (p : List Begun × Built). left_of p.1 p.0) e ∙ closed-whole bs S

  pub next-all : (P : ℕ → Type 0) → AllBuilt P bs → AllVariables P S → AllBuilt P cs
  next-all P h p = subst (λ (q : List Begun × Built). AllClosed P q.1 q.0) (sym e) (closed-all P bs S h p)

  pub next-left : (P : ℕ → Type 0) → AllLeft P bs → AllVariables P T × AllLeft P cs
  next-left P h = subst (λ (q : List Begun × Built). AllNext P q.1 q.0) (sym e) (closed-left P bs S h)

  pub next-less : (r : ℕ → ℕ) → walk r T + walk_left r cs ≤ walk_left r bs
  next-less r = subst (λ (q : List Begun × Built). Shrinks r (walk_left r bs) q.1 q.0) (sym e) (closed-less r bs S)

  -- so less is left than before the leaf S
  pub next-smaller : (r : ℕ → ℕ) (n : ℕ) → walk r S + walk_left r bs ≤ n → walk r T + walk_left r cs < n
  next-smaller r n h = let a = next-less r in let b = walk-some r S in omega arith
