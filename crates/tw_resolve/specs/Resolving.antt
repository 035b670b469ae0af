-- What is written with its names resolved: the newest variable of a name in scope, or else its newest entry, or else a free variable. What isn't written takes its
-- skeleton off a list, in the order of the reading of skeletons. Entries, free variables and holes have the places where they are written, and a binder without a type
-- the place of its bracket.
use Rattle.std.specs.Prelude.{ℕ, List, ◌∷◌, Bool, true, false, ◌&&◌, Option, None, Some, if◌then◌else◌}
use Rattle.std.specs.Option.{option_map}
use Rattle.lf.specs.Entries.{Entry}
use Rattle.lf.specs.Syntax.{Head, constant, variable, metavariable, Skeleton}
use Rattle.lf_elaboration.specs.Written as written
use Rattle.lf_elaboration.specs.Written.{Place, Written, WrittenDomain, WrittenType, WrittenKind, type_hole, written_star}
use Rattle.tw_approx.specs.Readings.{Reading, take, found, and_then}
use Rattle.tw_names.specs.Scope.{binder_name, named}
use Rattle.tw_parse.specs.Syntax.{Term, Domain, identifier, hole, star, arrow, pi, lambda, application, ascription, untyped, typed}
use Rattle.tw_fixity.specs.Names.{Names, variable_of}
use Rattle.tw_written.specs.View.{place_of}

-- a name at this place, which names this, or else is this one of the free variables
abbrev pub resolved_name : Place → Option Head → Option ℕ → Option Written
resolved_name at (Some (constant c)) i = Some (written.declared c at)
resolved_name at (Some (variable j)) i = Some (written.bound j)
resolved_name at (Some (metavariable m)) i = None
resolved_name at None i = option_map (λ j. written.free j at) i

abbrev pub resolved_family : Place → Option Head → Option WrittenType
resolved_family at (Some (constant c)) = Some (written.family c at)
resolved_family at (Some (variable i)) = None
resolved_family at (Some (metavariable m)) = None
resolved_family at None = None

-- two parts, one behind the other, and what they make
abbrev pub with_both : {A B C : Type 0} → (A → B → List Skeleton → Reading C) → Reading A → (List Skeleton → Reading B) → Reading C
with_both make r f = and_then r (λ a p. and_then (f p) (make a))

abbrev pub made : {A B C : Type 0} → (A → B → C) → A → B → List Skeleton → Reading C
made make a b o = Some (make a b, o)

abbrev pub is_type_hole : WrittenType → Bool
is_type_hole (type_hole s at) = true
is_type_hole (written.arrow U V) = false
is_type_hole (written.quantified d V) = false
is_type_hole (written.family c at) = false
is_type_hole (written.family_applied U P) = false
is_type_hole (written.family_ascribed U k) = false

-- no kind of types
abbrev pub is_higher : WrittenKind → Bool
is_higher written_star = false
is_higher (written.kind_arrow U k) = true
is_higher (written.kind_quantified d k) = true

-- A family on an argument. No hole stands for a family.
abbrev pub on_argument : WrittenType → Written → List Skeleton → Reading WrittenType
on_argument U P o = if is_type_hole U then None else Some (written.family_applied U P, o)

-- a family or a type with its kind
abbrev pub of_kind : WrittenType → WrittenKind → List Skeleton → Reading WrittenType
of_kind U k o = if is_type_hole U && is_higher k then None else Some (written.family_ascribed U k, o)

-- The free variables have the names `free`, by their places, and the variables in scope N. The variable of an arrow is in no scope.
module _ (es : List Entry) (free : Names) where
  abbrev mutual
    -- a term
    pub resolved_term : Names → Term → List Skeleton → Reading Written
    resolved_term N (identifier x at) o = found (resolved_name (place_of at) (named es N x) (variable_of free x)) o
    resolved_term N (hole at) o = and_then (take o) (λ s p. Some (written.hole s (place_of at), p))
    resolved_term N (lambda x at D M) o = with_both (made written.function) (resolved_domain N (place_of at) D o) (resolved_term (binder_name x ∷ N) M)
    resolved_term N (application M P) o = with_both (made written.applied) (resolved_term N M o) (resolved_term N P)
    resolved_term N (ascription M A) o = with_both (made written.ascribed) (resolved_term N M o) (resolved_type N A)
    resolved_term N _ o = None

    -- a type or a family
    pub resolved_type : Names → Term → List Skeleton → Reading WrittenType
    resolved_type N (identifier x at) o = found (resolved_family (place_of at) (named es N x)) o
    resolved_type N (hole at) o = and_then (take o) (λ s p. Some (type_hole s (place_of at), p))
    resolved_type N (arrow U V) o = with_both (made written.arrow) (resolved_type N U o) (resolved_type N V)
    resolved_type N (pi x at D V) o = with_both (made written.quantified) (resolved_domain N (place_of at) D o) (resolved_type (binder_name x ∷ N) V)
    resolved_type N (application M P) o = with_both on_argument (resolved_type N M o) (resolved_term N P)
    resolved_type N (ascription M K) o = with_both of_kind (resolved_type N M o) (resolved_kind N K)
    resolved_type N _ o = None

    -- the domain of a binder, whose bracket stands at this place
    pub resolved_domain : Names → Place → Domain → List Skeleton → Reading WrittenDomain
    resolved_domain N at untyped o = and_then (take o) (λ s p. Some (written.of_skeleton s at, p))
    resolved_domain N at (typed A) o = and_then (resolved_type N A o) (λ U p. Some (written.of_type U, p))

    -- a kind
    pub resolved_kind : Names → Term → List Skeleton → Reading WrittenKind
    resolved_kind N star o = Some (written_star, o)
    resolved_kind N (arrow U K) o = with_both (made written.kind_arrow) (resolved_type N U o) (resolved_kind N K)
    resolved_kind N (pi x at D K) o = with_both (made written.kind_quantified) (resolved_domain N (place_of at) D o) (resolved_kind (binder_name x ∷ N) K)
    resolved_kind N _ o = None
