-- The plain syntax that a value of the program stands for.
use Rattle.std.specs.Prelude.{List, [], ◌∷◌, map}
use Rattle.lf.specs.Syntax as lf
use Rattle.tw_terms.specs.declared.canonical.Head.{Head}
use Rattle.tw_terms.specs.declared.canonical.Head.TheVariants.{Const, Var}
use Rattle.tw_terms.specs.declared.canonical.Term.{Term, fold-Term}
use Rattle.tw_terms.specs.declared.canonical.Spine.{Spine, fold-Spine}
use Rattle.tw_terms.specs.declared.canonical.Term.TheOpen.{Term-F, Spine-F}
use Rattle.tw_terms.specs.declared.canonical.Ty.{Ty, fold-Ty}
use Rattle.tw_terms.specs.declared.canonical.Ty.TheOpen.{Ty-F}
use Rattle.tw_terms.specs.declared.canonical.Kind.{Kind, fold-Kind}
use Rattle.tw_terms.specs.declared.canonical.Kind.TheOpen.{Kind-F}
use Rattle.tw_terms.specs.declared.canonical.Skeleton.{Skeleton, fold-Skeleton}
use Rattle.tw_terms.specs.declared.canonical.Skeleton.TheOpen.{Skeleton-F}

unfoldable pub head_of : Head → lf.Head
head_of (Const c) = lf.constant c.0
head_of (Var i) = lf.variable i

-- the spine of these arguments
abbrev pub spine_from : List lf.Term → lf.Spine
spine_from [] = lf.nil
spine_from (m ∷ ms) = lf.app m (spine_from ms)

-- one level of a term, with each part already seen as its syntax
abbrev pub term_step : Term-F lf.Term lf.Spine → lf.Term
term_step (Term-F.Lam b) = lf.lambda b.value
term_step (Term-F.Root h s) = lf.root (head_of h) s

abbrev pub spine_step : Spine-F lf.Term lf.Spine → lf.Spine
spine_step s = spine_from s.args.items

unfoldable pub term_of : Term → lf.Term
term_of = fold-Term lf.Term lf.Spine term_step spine_step

unfoldable pub spine_of : Spine → lf.Spine
spine_of = fold-Spine lf.Term lf.Spine term_step spine_step

-- the spine of these terms of the program
abbrev pub args_of : List Term → lf.Spine
args_of ts = spine_from (map term_of ts)

abbrev pub type_step : Ty-F lf.LfType → lf.LfType
type_step (Ty-F.Pi a b) = lf.pi a.value b.value
type_step (Ty-F.Atom c s) = lf.atom c.0 (spine_of s)

unfoldable pub type_of : Ty → lf.LfType
type_of = fold-Ty lf.LfType type_step

abbrev pub kind_step : Kind-F lf.Kind → lf.Kind
kind_step (Kind-F.Pi a k) = lf.kind_pi (type_of a.value) k.value
kind_step Kind-F.Star = lf.star

unfoldable pub kind_of : Kind → lf.Kind
kind_of = fold-Kind lf.Kind kind_step

abbrev pub skeleton_step : Skeleton-F lf.Skeleton → lf.Skeleton
skeleton_step (Skeleton-F.Base c) = lf.base c.0
skeleton_step (Skeleton-F.Arrow a b) = lf.arrow a.value b.value

unfoldable pub skeleton_of : Skeleton → lf.Skeleton
skeleton_of = fold-Skeleton lf.Skeleton skeleton_step
