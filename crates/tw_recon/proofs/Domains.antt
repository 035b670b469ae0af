-- The domains that are read so far, in front of the rest of a kind.
use Rattle.std.proofs.Common.{◌≡◌, ℕ, suc, List, [], ◌∷◌, ◌++◌, length, map, refl, sym, ap, ◌∙◌, subst, inr, arith, length-append}
use Rattle.lf.specs.Syntax.{Kind, LfType, kind_pi, star}
use Rattle.tw_metas.specs.State.{State}
use Rattle.tw_abstract.specs.Reading.{IsTypeReadAs}
use Rattle.tw_terms.specs.View.{type_of}
use Rattle.tw_terms.specs.declared.canonical.Ty.{Ty}
use Rattle.tw_recon.specs.Reading.{IsKindReadAs, KindIsDeep, KindStands, kind_of_types}

-- the kind K behind arguments of these types
abbrev pub kind_from : List LfType → Kind → Kind
kind_from [] K = K
kind_from (A ∷ As) K = kind_pi A (kind_from As K)

pub kind_from-star : (As : List LfType) → kind_from As star ≡ kind_of_types As
kind_from-star [] = refl
kind_from-star (A ∷ As) = ap (kind_pi A) (kind_from-star As)

pub kind_from-last : (ts : List Ty) (t : Ty) (K : Kind) → kind_from (map type_of (ts ++ t ∷ [])) K ≡ kind_from (map type_of ts) (kind_pi (type_of t) K)
kind_from-last [] t K = refl
kind_from-last (u ∷ ts) t K = ap (kind_pi (type_of u)) (kind_from-last ts t K)

-- one domain is taken back
pub taken_last : (As : List LfType) (us ts : List Ty) (t : Ty) (K L : Kind) → us ≡ ts ++ t ∷ [] → L ≡ kind_pi (type_of t) K → kind_from (map type_of us) K ≡ kind_of_types As → kind_from (map type_of ts) L ≡ kind_of_types As
taken_last As us ts t K L e l r = ap (kind_from (map type_of ts)) l ∙ sym (kind_from-last ts t K) ∙ ap (λ xs. kind_from (map type_of xs) K) (sym e) ∙ r

-- Reading a kind, the domains read so far: the rest K stands, and what is read of it, or is too deep in it, is of the whole kind W.
pub record ReadsOn (s : State) (ms : List ℕ) (W K : Kind) (ts : List Ty) : Type 0 where
  pub stands : KindStands s (length ts) K
  pub read : (L : Kind) → IsKindReadAs s ms (length ts) K L → IsKindReadAs s ms 0 W (kind_from (map type_of ts) L)
  pub deep : KindIsDeep s (length ts) K → KindIsDeep s 0 W

pub reads_first : (s : State) (ms : List ℕ) (W : Kind) → KindStands s 0 W → ReadsOn s ms W W []
reads_first s ms W z = record { stands = z; read = λ L r. r; deep = λ d. d }

pub reads_next : (s : State) (ms : List ℕ) (W K R : Kind) (A : LfType) (ts us : List Ty) (t : Ty) → K ≡ kind_pi A R → us ≡ ts ++ t ∷ [] → IsTypeReadAs s ms (length ts) A (type_of t) → ReadsOn s ms W K ts → ReadsOn s ms W R us
reads_next s ms W K R A ts us t k u r z =
    let z' : ReadsOn s ms W (kind_pi A R) ts = subst (λ X. ReadsOn s ms W X ts) k z in
    let n : length (ts ++ t ∷ []) ≡ suc (length ts) = length-append ts (t ∷ []) ∙ omega arith in
    subst (λ vs. ReadsOn s ms W R vs) (sym u) (record {
      stands = subst (λ i. KindStands s i R) (sym n) z'.stands.1;
      read = λ L q. subst (λ X. IsKindReadAs s ms 0 W X) (sym (kind_from-last ts t L)) (z'.read (kind_pi (type_of t) L) (r, subst (λ i. IsKindReadAs s ms i R L) n q));
      deep = λ d. z'.deep (inr (subst (λ i. KindIsDeep s i R) n d));
    })

pub reads_last : (s : State) (ms : List ℕ) (W K L : Kind) (ts : List Ty) → K ≡ star → L ≡ kind_of_types (map type_of ts) → ReadsOn s ms W K ts → IsKindReadAs s ms 0 W L
reads_last s ms W K L ts k l z =
    let z' : ReadsOn s ms W star ts = subst (λ X. ReadsOn s ms W X ts) k z in
    subst (λ X. IsKindReadAs s ms 0 W X) (kind_from-star (map type_of ts) ∙ sym l) (z'.read star tt)
