-- What the solved store says of a declaration and of a query.
use Rattle.std.proofs.Common.{◌≡◌, ℕ, List, [], ◌∷◌, Bool, true, false, Option, None, Some, Result, Ok, Err, IfErr, inr, refl, ap}
use Rattle.lf.specs.Entries.{Entry}
use Rattle.lf.specs.Syntax.{Skeleton, arrow as arrow_skeleton}
use Rattle.tw_approx.specs.Answer.{IsOfObjects, NestsWithin, HasCause, IsQueryOfObjects, QueryNestsWithin, HasQueryCause}
use Rattle.tw_approx.specs.Names.{IsFreeVariable, IsFreeIn}
use Rattle.tw_approx.specs.Readings.{Reading, and_then}
use Rattle.tw_approx.specs.Skeletons.{Frees, known, whole, type_skeleton, domain_skeleton, Fits, FitsQuery}
use Rattle.tw_approx.specs.Solving.{IsFound, IsLeftOpen}
use Rattle.tw_approx.specs.Walks.{State}
use Rattle.tw_approx.specs.declared.fault.ApproxFault.{ApproxFault}
use Rattle.tw_approx.specs.declared.fault.ApproxFault.TheVariants.{Unknown, TypeLevel, Clash, Loose, TooDeep, NoMemory}
use Rattle.tw_names.specs.Texts.{ends_in_type}
use Rattle.tw_names.specs.Scope.{binder_name}
use Rattle.tw_parse.specs.Syntax.{Term, identifier, hole, star, arrow, pi, lambda, application, ascription, Declaration}
use Rattle.tw_fixity.specs.Names.{Names}
use Rattle.tw_approx.proofs.Fitting.{deep_once, open_twice}

pub if_err : {T E : Type 0} (r : Result T E) (P Q : E → Type 0) → ((x : E) → P x → Q x) → IfErr r P → IfErr r Q
if_err (Ok x) P Q f p = tt
if_err (Err e) P Q f p = f e p

module _ (es : List Entry) (t : State) where
  pub declaration_open : (d : Declaration) → NestsWithin es d → IsOfObjects es d → IsFound (λ f o. Fits es f o d) (λ x. IsFreeVariable es x d) t → (f : ApproxFault) → IsLeftOpen t f → HasCause es d f
  declaration_open d within objects found (Unknown name place) o = absurd o
  declaration_open d within objects found (TypeLevel place) o = absurd o
  declaration_open d within objects found Clash o = absurd o
  declaration_open d within objects found Loose o = (within, objects, open_twice (λ x. IsFreeVariable es x d) (λ f p. Fits es f p d) t found o)
  declaration_open d within objects found TooDeep o = inr (within, objects, deep_once (λ x. IsFreeVariable es x d) (λ f p. Fits es f p d) t found o)
  declaration_open d within objects found NoMemory o = tt

  pub query_open : (A : Term) → QueryNestsWithin es A → IsQueryOfObjects es A → IsFound (λ f o. FitsQuery es f o A) (λ x. IsFreeIn es x [] A) t → (f : ApproxFault) → IsLeftOpen t f → HasQueryCause es A f
  query_open A within objects found (Unknown name place) o = absurd o
  query_open A within objects found (TypeLevel place) o = absurd o
  query_open A within objects found Clash o = absurd o
  query_open A within objects found Loose o = (within, objects, open_twice (λ x. IsFreeIn es x [] A) (λ f p. FitsQuery es f p A) t found o)
  query_open A within objects found TooDeep o = inr (within, objects, deep_once (λ x. IsFreeIn es x [] A) (λ f p. FitsQuery es f p A) t found o)
  query_open A within objects found NoMemory o = tt

module _ (es : List Entry) (f : Frees) where
  no_range : (N : Names) (G : List Skeleton) (x : Option (List ℕ)) (V : Term) (r : Reading Skeleton) → ((s : Skeleton) (p : List Skeleton) → type_skeleton es f (x ∷ N) (s ∷ G) V p ≡ None)
      → and_then (and_then r (λ s p. and_then (type_skeleton es f (x ∷ N) (s ∷ G) V p) (λ t q. Some (known [] (arrow_skeleton s t), q)))) whole ≡ None
  no_range N G x V None none = refl
  no_range N G x V (Some (s, p)) none = ap (λ (r : Reading Skeleton). and_then (and_then r (λ t q. Some (known [] (arrow_skeleton s t), q))) whole) (none s p)

  -- a kind is no type
  pub no_type : (N : Names) (G : List Skeleton) (A : Term) (o : List Skeleton) → ends_in_type A ≡ true → type_skeleton es f N G A o ≡ None
  no_type N G (identifier x at) o e = cc
  no_type N G (hole at) o e = cc
  no_type N G star o e = refl
  no_type N G (arrow U V) o e = no_range N G None V (type_skeleton es f N G U o) (λ s p. no_type (None ∷ N) (s ∷ G) V p e)
  no_type N G (pi x at D V) o e = no_range N G (binder_name x) V (domain_skeleton es f N G D o) (λ s p. no_type (binder_name x ∷ N) (s ∷ G) V p e)
  no_type N G (lambda x at D M) o e = cc
  no_type N G (application M P) o e = cc
  no_type N G (ascription M A) o e = cc

  no_reading : (r : Reading Skeleton) (s : Skeleton) → r ≡ None → r ≡ Some (s, []) → ⊥
  no_reading None s e h = cc
  no_reading (Some p) s e h = cc

  type_alone : (A : Term) (o : List Skeleton) (b : Bool) → ends_in_type A ≡ b → FitsQuery es f o A → b ≡ false
  type_alone A o false e h = refl
  type_alone A o true e h = absurd (no_reading (type_skeleton es f [] [] A o) h.0 (no_type [] [] A o e) h.1)

  pub goal_is_type : (A : Term) (o : List Skeleton) → FitsQuery es f o A → ends_in_type A ≡ false
  goal_is_type A o h = type_alone A o (ends_in_type A) refl h
