-- The numbers of metavariables tell where they were made.
use Rattle.std.specs.Prelude.{◌≡◌, ℕ, zero, suc, ◌+◌, List, [], ◌∷◌, take, true, false, Some, slice_get}
use Rattle.lf.specs.Entries.{Body, Entry}
use Rattle.lf.specs.Syntax.{Kind, LfType, Skeleton, Spine, Term}
use Rattle.lf_elaboration.specs.Elaboration.{Checks, ElaboratesDomain, ElaboratesFamily, ElaboratesKind, ElaboratesType, Infers, NewFrees}
use Rattle.lf_elaboration.specs.Principal.{WrittenBody}
use Rattle.lf_elaboration.specs.PrincipalLaws.{ElaboratesBody}
use Rattle.lf_elaboration.specs.Sites.{Spot, domain_spots, kind_spots, spots, term_spots, type_spots}
use Rattle.lf_elaboration.specs.State.{State, nothing_yet}
use Rattle.lf_elaboration.specs.Written.{Written, WrittenDomain, WrittenKind, WrittenType}

-- of all of these
abbrev pub total : List Spot → ℕ
total [] = zero
total (s ∷ ss) = s.count + total ss

-- Whatever is elaborated makes as many metavariables as its spots count; so each part begins with the number behind those of the parts before it.
abbrev pub MetavariablesAreCounted : Type 0
MetavariablesAreCounted = (es : List Entry) (frees : List ℕ) (D : List LfType) (s s' : State) →
    ((M : Written) (R : Term) (A : LfType) → Infers es frees D M s s' R A → s'.next ≡ s.next + total (term_spots es false M))
    × ((M : Written) (A : LfType) (R : Term) → Checks es frees D M A s s' R → s'.next ≡ s.next + total (term_spots es true M))
    × ((U : WrittenType) (A : LfType) → ElaboratesType es frees D U s s' A → s'.next ≡ s.next + total (type_spots es U))
    × ((d : WrittenDomain) (A : LfType) → ElaboratesDomain es frees D d s s' A → s'.next ≡ s.next + total (domain_spots es d))
    × ((U : WrittenType) (a : ℕ) (S : Spine) (K : Kind) → ElaboratesFamily es frees D U s s' a S K → s'.next ≡ s.next + total (type_spots es U))
    × ((k : WrittenKind) (K : Kind) → ElaboratesKind es frees D k s s' K → s'.next ≡ s.next + total (kind_spots es k))

-- Of a whole declaration; and each free variable has the last number of its spot.
abbrev pub SpotsAreAll : Type 0
SpotsAreAll = (es : List Entry) (ts : List Skeleton) (frees : List ℕ) (s s' : State) → NewFrees es ts nothing_yet s frees → (w : WrittenBody) (b : Body) → ElaboratesBody es frees w s s' b →
    (s'.next ≡ total (spots es ts w))
    × ((i m : ℕ) → slice_get frees i ≡ Some m → suc m ≡ total (take (suc i) (spots es ts w)))
