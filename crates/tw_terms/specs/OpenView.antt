-- The plain syntax that an open value of the program stands for.
use Rattle.std.specs.Prelude.{List, map}
use Rattle.lf.specs.Syntax as lf
use Rattle.tw_terms.specs.View.{spine_from}
use Rattle.tw_terms.specs.declared.open_terms.OpenHead.{OpenHead}
use Rattle.tw_terms.specs.declared.open_terms.OpenHead.TheVariants.{Const, Var, Meta}
use Rattle.tw_terms.specs.declared.open_terms.Open.{Open, fold-Open}
use Rattle.tw_terms.specs.declared.open_terms.OpenSpine.{OpenSpine, fold-OpenSpine}
use Rattle.tw_terms.specs.declared.open_terms.Open.TheOpen.{Open-F, OpenSpine-F}
use Rattle.tw_terms.specs.declared.open_terms.OpenTy.{OpenTy, fold-OpenTy}
use Rattle.tw_terms.specs.declared.open_terms.OpenTy.TheOpen.{OpenTy-F}

unfoldable pub open_head_of : OpenHead → lf.Head
open_head_of (Const c) = lf.constant c.0
open_head_of (Var i) = lf.variable i
open_head_of (Meta m) = lf.metavariable m.0

-- one level of an open term, with each part already seen as its syntax
abbrev pub open_term_step : Open-F lf.Term lf.Spine → lf.Term
open_term_step (Open-F.Lam b) = lf.lambda b.value
open_term_step (Open-F.Root h s) = lf.root (open_head_of h) s

abbrev pub open_spine_step : OpenSpine-F lf.Term lf.Spine → lf.Spine
open_spine_step s = spine_from s.args.items

unfoldable pub open_term_of : Open → lf.Term
open_term_of = fold-Open lf.Term lf.Spine open_term_step open_spine_step

unfoldable pub open_spine_of : OpenSpine → lf.Spine
open_spine_of = fold-OpenSpine lf.Term lf.Spine open_term_step open_spine_step

-- the spine of these open terms of the program
abbrev pub open_args_of : List Open → lf.Spine
open_args_of ts = spine_from (map open_term_of ts)

abbrev pub open_type_step : OpenTy-F lf.LfType → lf.LfType
open_type_step (OpenTy-F.Pi a b) = lf.pi a.value b.value
open_type_step (OpenTy-F.Atom c s) = lf.atom c.0 (open_spine_of s)

unfoldable pub open_type_of : OpenTy → lf.LfType
open_type_of = fold-OpenTy lf.LfType open_type_step
