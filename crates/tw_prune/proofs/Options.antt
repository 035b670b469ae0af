-- Values that may be missing.
use Rattle.std.proofs.Common.{◌≡◌, ℕ, ◌<◌, ◌≤◌, Option, Some, None, Result, Ok, Err, IfOk, ◌⊎◌, inl, inr, refl, sym}
use Rattle.std.specs.Prelude.{option_map, true, false}
use Rattle.std.specs.Prelude.{nat_lt, nat_le}
use Rattle.std.proofs.lemmas.Bool.Decides.{leb_tells}
use Rattle.std.proofs.Common.{suc, arith}
use Rattle.tw_prune.specs.Walks.{both}

-- what the test tells
pub lt_tells : (a b : ℕ) → ((nat_lt a b ≡ true) × (a < b)) ⊎ ((nat_lt a b ≡ false) × (b ≤ a))
lt_tells a b = go (leb_tells (suc a) b)
  where
    go : ((nat_le (suc a) b ≡ true) × (suc a ≤ b)) ⊎ ((nat_le (suc a) b ≡ false) × (b < suc a)) → ((nat_lt a b ≡ true) × (a < b)) ⊎ ((nat_lt a b ≡ false) × (b ≤ a))
    go (inl (e, h)) = inl (e, omega arith)
    go (inr (e, h)) = inr (e, omega arith)

pub map_some : {A B : Type 0} (f : A → B) (x : Option A) (z : B) → option_map f x ≡ Some z → (a : A) × (x ≡ Some a) × (f a ≡ z)
map_some f None z e = cc
map_some f (Some a) z e = (a, refl, cc)

pub map_none : {A B : Type 0} (f : A → B) (x : Option A) → option_map f x ≡ None → x ≡ None
map_none f None e = refl
map_none f (Some a) e = cc

pub both_some : {A B C : Type 0} (f : A → B → C) (x : Option A) (y : Option B) (z : C) → both f x y ≡ Some z → (a : A) × (b : B) × (x ≡ Some a) × (y ≡ Some b) × (f a b ≡ z)
both_some f None y z e = cc
both_some f (Some a) None z e = cc
both_some f (Some a) (Some b) z e = (a, b, refl, refl, cc)

-- either there is none, or some
pub some_or_none : {A : Type 0} (x : Option A) → ((a : A) × (x ≡ Some a)) ⊎ (x ≡ None)
some_or_none None = inr refl
some_or_none (Some a) = inl (a, refl)

pub some_not_none : {A B : Type 0} (x : Option A) (a : A) → x ≡ Some a → x ≡ None → B
some_not_none x a e f = cc

-- a fact of the value, if there is one
pub if_ok : {A E : Type 0} (r : Result A E) (P Q : A → Type 0) → ((x : A) → P x → Q x) → IfOk r P → IfOk r Q
if_ok (Ok x) P Q f p = f x p
if_ok (Err e) P Q f p = p

pub not_some : {A B : Type 0} (f : A → B) (o : Option A) (u : Option B) → ((x : A) → o ≡ Some x → ⊥) → option_map f o ≡ u → u ≡ None
not_some f None u n e = sym e
not_some f (Some x) u n e = absurd (n x refl)

pub lt_false : (a b : ℕ) → nat_lt a b ≡ false → b ≤ a
lt_false a b e = go (lt_tells a b)
  where
    go : ((nat_lt a b ≡ true) × (a < b)) ⊎ ((nat_lt a b ≡ false) × (b ≤ a)) → b ≤ a
    go (inl (f, l)) = cc
    go (inr (f, l)) = l
