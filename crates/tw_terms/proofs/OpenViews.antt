-- The plain syntax of an open value, level by level.
use Rattle.std.proofs.Common.{◌≡◌, ℕ, Vec, Box, Global, rules, refl}
use Rattle.lf.specs.Syntax.{constant, variable, metavariable, lambda, root, pi, atom}
use Rattle.tw_terms.specs.OpenView.{open_head_of, open_term_of, open_spine_of, open_args_of, open_type_of}
use Rattle.tw_terms.specs.declared.canonical.ConstId.{ConstId}
use Rattle.tw_terms.specs.declared.canonical.MetaId.{MetaId}
use Rattle.tw_terms.specs.declared.open_terms.OpenHead.{OpenHead}
use Rattle.tw_terms.specs.declared.open_terms.OpenHead.TheVariants.{Const, Var, Meta}
use Rattle.tw_terms.specs.declared.open_terms.OpenTy.{OpenTy, Pi, Atom, the_lemmas as ty_lemmas}
use Rattle.tw_terms.specs.declared.open_terms.OpenSpine.{OpenSpine, roll-OpenSpine}
use Rattle.tw_terms.specs.declared.open_terms.Open.{Open, Lam, Root, the_lemmas}

pub open_head_of-Const : (c : ConstId) → open_head_of (Const c) ≡ constant c.0
unfolding open_head_of
open_head_of-Const c = refl

pub open_head_of-Var : (i : ℕ) → open_head_of (Var i) ≡ variable i
unfolding open_head_of
open_head_of-Var i = refl

pub open_head_of-Meta : (m : MetaId) → open_head_of (Meta m) ≡ metavariable m.0
unfolding open_head_of
open_head_of-Meta m = refl

pub open_term_of-Lam : (b : Box Open Global) → open_term_of (Lam b) ≡ lambda (open_term_of b.value)
unfolding open_term_of
open_term_of-Lam b = search (rules, the_lemmas)

pub open_term_of-Root : (h : OpenHead) (s : OpenSpine) → open_term_of (Root h s) ≡ root (open_head_of h) (open_spine_of s)
unfolding open_term_of open_spine_of
open_term_of-Root h s = search (rules, the_lemmas)

pub open_spine_of-args : (s : OpenSpine) → open_spine_of s ≡ open_args_of s.args.items
unfolding open_term_of open_spine_of
open_spine_of-args s = search (rules, the_lemmas)

pub open_spine_of-roll : (v : Vec Open Global) → open_spine_of (roll-OpenSpine (record { args = v })) ≡ open_args_of v.items
unfolding open_term_of open_spine_of
open_spine_of-roll v = search (rules, the_lemmas)

pub open_type_of-Pi : (a b : Box OpenTy Global) → open_type_of (Pi a b) ≡ pi (open_type_of a.value) (open_type_of b.value)
unfolding open_type_of
open_type_of-Pi a b = search (rules, ty_lemmas)

pub open_type_of-Atom : (c : ConstId) (s : OpenSpine) → open_type_of (Atom c s) ≡ atom c.0 (open_spine_of s)
unfolding open_type_of
open_type_of-Atom c s = search (rules, ty_lemmas)

pub ruleset open_head_views = (open_head_of-Const, open_head_of-Var, open_head_of-Meta)

pub ruleset open_term_views = (open_head_views, open_term_of-Lam, open_term_of-Root, open_spine_of-args, open_spine_of-roll, the_lemmas)

pub ruleset open_type_views = (open_type_of-Pi, open_type_of-Atom, ty_lemmas)
