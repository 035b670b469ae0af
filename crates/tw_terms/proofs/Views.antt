-- The plain syntax of a value, level by level.
use Rattle.std.proofs.Common.{◌≡◌, ℕ, Vec, Box, Global, rules, refl}
use Rattle.lf.specs.Syntax.{constant, variable, lambda, root, pi, atom, kind_pi, star, base, arrow}
use Rattle.tw_terms.specs.View.{head_of, term_of, spine_of, args_of, type_of, kind_of, skeleton_of}
use Rattle.tw_terms.specs.declared.canonical.ConstId.{ConstId}
use Rattle.tw_terms.specs.declared.canonical.Head.{Head}
use Rattle.tw_terms.specs.declared.canonical.Head.TheVariants.{Const, Var}
use Rattle.tw_terms.specs.declared.canonical.Ty.{Ty, Pi, Atom, the_lemmas as ty_lemmas}
use Rattle.tw_terms.specs.declared.canonical.Kind.{Kind, Pi as PiKind, Star, the_lemmas as kind_lemmas}
use Rattle.tw_terms.specs.declared.canonical.Skeleton.{Skeleton, Base, Arrow, the_lemmas as skeleton_lemmas}
use Rattle.tw_terms.specs.declared.canonical.Spine.{Spine, roll-Spine}
use Rattle.tw_terms.specs.declared.canonical.Term.{Term, Lam, Root, the_lemmas}

pub head_of-Const : (c : ConstId) → head_of (Const c) ≡ constant c.0
unfolding head_of
head_of-Const c = refl

pub head_of-Var : (i : ℕ) → head_of (Var i) ≡ variable i
unfolding head_of
head_of-Var i = refl

pub term_of-Lam : (b : Box Term Global) → term_of (Lam b) ≡ lambda (term_of b.value)
unfolding term_of
term_of-Lam b = search (rules, the_lemmas)

pub term_of-Root : (h : Head) (s : Spine) → term_of (Root h s) ≡ root (head_of h) (spine_of s)
unfolding term_of spine_of
term_of-Root h s = search (rules, the_lemmas)

pub spine_of-args : (s : Spine) → spine_of s ≡ args_of s.args.items
unfolding term_of spine_of
spine_of-args s = search (rules, the_lemmas)

pub spine_of-roll : (v : Vec Term Global) → spine_of (roll-Spine (record { args = v })) ≡ args_of v.items
unfolding term_of spine_of
spine_of-roll v = search (rules, the_lemmas)

pub type_of-Pi : (a b : Box Ty Global) → type_of (Pi a b) ≡ pi (type_of a.value) (type_of b.value)
unfolding type_of
type_of-Pi a b = search (rules, ty_lemmas)

pub type_of-Atom : (c : ConstId) (s : Spine) → type_of (Atom c s) ≡ atom c.0 (spine_of s)
unfolding type_of
type_of-Atom c s = search (rules, ty_lemmas)

pub kind_of-Pi : (a : Box Ty Global) (k : Box Kind Global) → kind_of (PiKind a k) ≡ kind_pi (type_of a.value) (kind_of k.value)
unfolding kind_of
kind_of-Pi a k = search (rules, kind_lemmas)

pub kind_of-Star : kind_of Star ≡ star
unfolding kind_of
kind_of-Star = search (rules, kind_lemmas)

pub skeleton_of-Base : (c : ConstId) → skeleton_of (Base c) ≡ base c.0
unfolding skeleton_of
skeleton_of-Base c = search (rules, skeleton_lemmas)

pub skeleton_of-Arrow : (a b : Box Skeleton Global) → skeleton_of (Arrow a b) ≡ arrow (skeleton_of a.value) (skeleton_of b.value)
unfolding skeleton_of
skeleton_of-Arrow a b = search (rules, skeleton_lemmas)

pub ruleset head_views = (head_of-Const, head_of-Var)

pub ruleset term_views = (head_views, term_of-Lam, term_of-Root, spine_of-args, spine_of-roll, the_lemmas)

pub ruleset type_views = (type_of-Pi, type_of-Atom, kind_of-Pi, kind_of-Star, ty_lemmas, kind_lemmas)

pub ruleset skeleton_views = (skeleton_of-Base, skeleton_of-Arrow, skeleton_lemmas)
