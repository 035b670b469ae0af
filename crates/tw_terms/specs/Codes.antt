-- Codes of the syntax, by which a value of a type with a Model may be plain syntax.
use Rattle.std.specs.Prelude.{◌≡◌, refl}
use base.Stored.{Coded, Gv, gnil, gnum, gcons}
use mathlib.Core.Path.{ap}
use Rattle.lf.specs.Syntax.{Head, constant, variable, metavariable, Term, lambda, root, Spine, nil, app, LfType, pi, atom, Kind, kind_pi, star, Skeleton, base as base_skeleton, arrow}

abbrev pub code_of_head : Head → Gv
code_of_head (constant c) = gcons gnil (gnum c)
code_of_head (variable i) = gnum i
code_of_head (metavariable m) = gcons (gnum 0) (gnum m)

abbrev mutual
  pub code_of_term : Term → Gv
  code_of_term (lambda m) = gcons gnil (code_of_term m)
  code_of_term (root h s) = gcons (gcons gnil (code_of_head h)) (code_of_spine s)

  pub code_of_spine : Spine → Gv
  code_of_spine nil = gnil
  code_of_spine (app m s) = gcons (code_of_term m) (code_of_spine s)

abbrev pub code_of_type : LfType → Gv
code_of_type (pi a b) = gcons (gcons gnil (code_of_type a)) (code_of_type b)
code_of_type (atom c s) = gcons (gnum c) (code_of_spine s)

abbrev pub code_of_kind : Kind → Gv
code_of_kind (kind_pi a k) = gcons (code_of_type a) (code_of_kind k)
code_of_kind star = gnil

abbrev pub code_of_skeleton : Skeleton → Gv
code_of_skeleton (base_skeleton c) = gnum c
code_of_skeleton (arrow a b) = gcons (code_of_skeleton a) (code_of_skeleton b)

head_code_injective : (h k : Head) → code_of_head h ≡ code_of_head k → h ≡ k
head_code_injective (constant c) (constant d) e = cc
head_code_injective (constant c) (variable j) e = cc
head_code_injective (constant c) (metavariable m) e = cc
head_code_injective (variable i) (constant d) e = cc
head_code_injective (variable i) (variable j) e = cc
head_code_injective (variable i) (metavariable m) e = cc
head_code_injective (metavariable m) (constant d) e = cc
head_code_injective (metavariable m) (variable j) e = cc
head_code_injective (metavariable m) (metavariable n) e = cc

mutual
  pub term_code_injective : (m n : Term) → code_of_term m ≡ code_of_term n → m ≡ n
  term_code_injective (lambda m) (lambda n) e = ap lambda (term_code_injective m n cc)
  term_code_injective (lambda m) (root k u) e = cc
  term_code_injective (root h s) (lambda n) e = cc
  term_code_injective (root h s) (root k u) e = let same = head_code_injective h k cc in let rest = spine_code_injective s u cc in cc (same, rest)

  pub spine_code_injective : (s u : Spine) → code_of_spine s ≡ code_of_spine u → s ≡ u
  spine_code_injective nil nil e = refl
  spine_code_injective nil (app n u) e = cc
  spine_code_injective (app m s) nil e = cc
  spine_code_injective (app m s) (app n u) e = let same = term_code_injective m n cc in let rest = spine_code_injective s u cc in cc (same, rest)

pub type_code_injective : (a b : LfType) → code_of_type a ≡ code_of_type b → a ≡ b
type_code_injective (pi a b) (pi c d) e = let left = type_code_injective a c cc in let right = type_code_injective b d cc in cc (left, right)
type_code_injective (pi a b) (atom d u) e = cc
type_code_injective (atom c s) (pi a b) e = cc
type_code_injective (atom c s) (atom d u) e = let rest = spine_code_injective s u cc in cc rest

pub kind_code_injective : (k l : Kind) → code_of_kind k ≡ code_of_kind l → k ≡ l
kind_code_injective (kind_pi a k) (kind_pi b l) e = let left = type_code_injective a b cc in let right = kind_code_injective k l cc in cc (left, right)
kind_code_injective (kind_pi a k) star e = cc
kind_code_injective star (kind_pi b l) e = cc
kind_code_injective star star e = refl

pub skeleton_code_injective : (s u : Skeleton) → code_of_skeleton s ≡ code_of_skeleton u → s ≡ u
skeleton_code_injective (base_skeleton c) (base_skeleton d) e = cc
skeleton_code_injective (base_skeleton c) (arrow a b) e = cc
skeleton_code_injective (arrow a b) (base_skeleton d) e = cc
skeleton_code_injective (arrow a b) (arrow c d) e = let left = skeleton_code_injective a c cc in let right = skeleton_code_injective b d cc in cc (left, right)

abbrev pub term_code : Coded Term
term_code = record { code = code_of_term; inj = term_code_injective }

abbrev pub spine_code : Coded Spine
spine_code = record { code = code_of_spine; inj = spine_code_injective }

abbrev pub type_code : Coded LfType
type_code = record { code = code_of_type; inj = type_code_injective }

abbrev pub kind_code : Coded Kind
kind_code = record { code = code_of_kind; inj = kind_code_injective }

abbrev pub skeleton_code : Coded Skeleton
skeleton_code = record { code = code_of_skeleton; inj = skeleton_code_injective }
