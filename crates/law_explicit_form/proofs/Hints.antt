-- The binders of what a written type or kind gives.
use Rattle.std.proofs.Common.{◌≡◌, suc, List, [], ◌∷◌, length, None, refl, ap}
use Rattle.lf.specs.Entries.{Entry, Body, declare_family, declare_constant, declare_definition, quantifiers, kind_quantifiers, body_quantifiers}
use Rattle.lf.specs.Syntax.{LfType, pi as lf_pi, atom, Kind, kind_pi, star as lf_star}
use Rattle.law_explicit_form.specs.Completion.{TypeGives, KindGives, BodyGiven}
use Rattle.tw_names.specs.Texts.{hints}
use Rattle.tw_fixity.specs.Names.{Names}
use Rattle.tw_names.specs.Scope.{binder_name}
use Rattle.tw_parse.specs.Syntax.{Term, identifier, star, arrow, pi, application}

module _ (es : List Entry) where
  -- a hint for each quantifier
  type_hints : (U : Term) (N : Names) (G : List LfType) (A : LfType) → TypeGives es N G U A → length (hints U) ≡ quantifiers A
  type_hints (arrow U V) N G (lf_pi A B) (u, v) = ap suc (type_hints V (None ∷ N) (A ∷ G) B v)
  type_hints (pi x at D V) N G (lf_pi A B) (d, v) = ap suc (type_hints V (binder_name x ∷ N) (A ∷ G) B v)
  type_hints (identifier x at) N G (atom a S) g = refl
  type_hints (application M P) N G (atom a S) g = refl
  type_hints U N G A g = absurd g

  kind_hints : (U : Term) (N : Names) (G : List LfType) (K : Kind) → KindGives es N G U K → length (hints U) ≡ kind_quantifiers K
  kind_hints (arrow U V) N G (kind_pi A K) (u, v) = ap suc (kind_hints V (None ∷ N) (A ∷ G) K v)
  kind_hints (pi x at D V) N G (kind_pi A K) (d, v) = ap suc (kind_hints V (binder_name x ∷ N) (A ∷ G) K v)
  kind_hints star N G lf_star g = refl
  kind_hints U N G K g = absurd g

  pub body_hints : (U : Term) (b : Body) → BodyGiven es U b → length (hints U) ≡ body_quantifiers b
  body_hints U (declare_family K) g = kind_hints U [] [] K g
  body_hints U (declare_constant A) g = type_hints U [] [] A g
  body_hints U (declare_definition M A b) g = absurd g
