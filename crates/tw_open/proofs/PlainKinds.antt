-- What has no arguments in it stays as it is, whatever is put in.
use Rattle.std.proofs.Common.{◌≡◌, ℕ, List, [], ◌∷◌, ◌++◌, reverse, refl, sym, ap, ap₂, ◌∙◌, subst}
use Rattle.std.proofs.lemmas.List.{reverse-append}
use Rattle.lf.specs.Substitution.{Image, lift, reduce, single, substitute_kind, substitute_type}
use Rattle.lf.specs.Syntax.{Kind, LfType, Skeleton, Spine, Term, app, atom, kind_pi, nil, pi, skeleton, star}
use Rattle.lf_unification.specs.Lists.{followed}
use Rattle.lf_unification.specs.Unifiers.{Equation}
use Rattle.tw_terms.specs.OpenView.{open_args_of, open_term_of}
use Rattle.tw_terms.specs.declared.open_terms.Open.{Open}
use Rattle.tw_open.specs.Indices.{TakesBoth}
use Rattle.tw_open.specs.Plain.{IsPlain, IsPlainType}
use Rattle.tw_open.specs.declared.indices.Wanted.TheVariants.{Every}

pub plain_type_stays : (r : Skeleton → Term → Spine → Term) (σ : ℕ → Image) (A : LfType) → IsPlainType A → substitute_type r σ A ≡ A
plain_type_stays r σ (pi A B) (a, b) = ap₂ pi (plain_type_stays r σ A a) (plain_type_stays r (lift σ) B b)
plain_type_stays r σ (atom a nil) p = refl
plain_type_stays r σ (atom a (app M S)) p = absurd p

pub plain_stays : (r : Skeleton → Term → Spine → Term) (σ : ℕ → Image) (K : Kind) → IsPlain K → substitute_kind r σ K ≡ K
plain_stays r σ (kind_pi A K) (a, k) = ap₂ kind_pi (plain_type_stays r σ A a) (plain_stays r (lift σ) K k)
plain_stays r σ star p = refl

pub plain_range : (K L : Kind) (A : LfType) → K ≡ kind_pi A L → IsPlain K → IsPlain L
plain_range K L A e p = (subst IsPlain e p).1

-- the kind takes two arguments, and its range is left
pub takes_plain : (D : List LfType) (K L : Kind) (A : LfType) (M N : Term) (old new : List Equation) → K ≡ kind_pi A L → IsPlain K → new ≡ followed old (record { local = D; left = M; right = N; of_type = A } ∷ []) → TakesBoth Every D K M N L old new
takes_plain D K L A M N old new e p n = record {
  domain = A;
  range = L;
  is = e;
  added = n;
  left_over = sym (plain_stays reduce (single (skeleton A) M) L (plain_range K L A e p));
}

-- the last of the arguments that wait comes first
pub popped : (us vs : List Open) (x : Open) → us ≡ vs ++ x ∷ [] → open_args_of (reverse us) ≡ app (open_term_of x) (open_args_of (reverse vs))
popped us vs x e = ap (λ l. open_args_of (reverse l)) e ∙ ap open_args_of (reverse-append vs (x ∷ []))
