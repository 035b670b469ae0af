-- The variables of a context, the outermost first.
use Rattle.std.proofs.Common.{◌≡◌, ℕ, zero, suc, ◌-◌, ◌<◌, List, [], ◌∷◌, length, drop, Some, sym, ap, ap₂, ◌∙◌, arith, ◌++◌, ◌+◌, add-one}
use Rattle.std.specs.List.{slice_get}
use Rattle.lf.specs.Syntax.{LfType}
use Rattle.tw_print.specs.Names.{Scene, fresh_name, lower_base}
use Rattle.tw_print.specs.Page.{Binds}
use Rattle.tw_print.specs.Shown.{context_names}
use Rattle.tw_print.specs.declared.page.Page.{Page}

some_inj : {x y : LfType} → Some x ≡ Some y → x ≡ y
some_inj e = cc

at : (G : List LfType) (k : ℕ) (A : LfType) → slice_get G k ≡ Some A → drop k G ≡ A ∷ drop (suc k) G
at [] k A e = absurd cc
at (B ∷ G) zero A e = ap (λ X. X ∷ G) (some_inj e)
at (B ∷ G) (suc k) A e = at G k A e

pub outside_next : (G : List LfType) (n : ℕ) (A : LfType) → n < length G → slice_get G (length G - 1 - n) ≡ Some A → drop (length G - suc n) G ≡ A ∷ drop (length G - n) G
outside_next G n A h e =
    let j : length G - suc n ≡ length G - 1 - n = omega (arith, h) in
    let k : length G - n ≡ suc (length G - 1 - n) = omega (arith, h) in
    ap (λ i. drop i G) j ∙ at G (length G - 1 - n) A e ∙ sym (ap (λ i. A ∷ drop i G) k)

pub outside_at : (G : List LfType) (n : ℕ) (A : LfType) → n < length G → slice_get G (length G - 1 - n) ≡ Some A → drop (length G - (n + 1)) G ≡ A ∷ drop (length G - n) G
outside_at G n A h e = ap (λ k. drop (length G - k) G) (add-one n) ∙ outside_next G n A h e

-- one more variable of the context
pub record Entered (s : Scene) (G : List LfType) (q : Page) (k : ℕ) : Type 0 where
  pub out : q.out.items ≡ []
  pub context : q.context ≡ drop k G
  pub scope : q.scope ≡ context_names s (drop k G)

pub entered : (s : Scene) (G : List LfType) (p q : Page) (j k : ℕ) (A : LfType) (x : List ℕ) → drop k G ≡ A ∷ drop j G → x ≡ fresh_name s p.scope (lower_base s A)
    → p.out.items ≡ [] → p.context ≡ drop j G → p.scope ≡ context_names s (drop j G) → Binds p q [] A (Some x) → Entered s G q k
entered s G p q j k A x d e o c n b = record {
  out = b.out ∙ ap (λ y. y ++ []) o;
  context = b.context ∙ ap (λ H. A ∷ H) c ∙ sym d;
  scope = b.scope ∙ ap₂ (λ y ns. Some y ∷ ns) (e ∙ ap (λ ns. fresh_name s ns (lower_base s A)) n) n ∙ sym (ap (context_names s) d);
}
