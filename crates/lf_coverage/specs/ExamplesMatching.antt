-- Worked cases: what matching finds, and what it refuses.
use Rattle.std.specs.Prelude.{◌≡◌, [], Some, None}
use Rattle.lf.specs.Syntax.{constant, lambda, root, nil, app}
use Rattle.lf_cases.specs.Pattern.{Pattern, of_constant, head_pattern}
use Rattle.lf_cases.specs.Reached.{IsInstanceOf}
use Rattle.lf_totality.specs.Examples.{Addition, var, applied_to, plus_z, plus_input_goal, plus_output_case, plus_successor_case, cp_lam}
use Rattle.lf_totality.specs.ExamplesReached.{Applied, applied_clause, applied_goal, cp_lam_case, eq_goal, head_of}
use Rattle.lf_totality.specs.ExamplesMissing.{eq_r}
use Rattle.lf_coverage.specs.ExamplesLeaves.{plus_asked}
use Rattle.lf_coverage.specs.ExamplesTyped.{plus_s_head}
use Rattle.lf_coverage.specs.Matching.{Matches, MatchesByTerms, found_term, read_off}

-- the head of plus-z
abbrev pub plus_z_head : Pattern
plus_z_head = head_pattern plus_z (of_constant plus_z.type)

-- In plus (s X') Y _ the X of plus-s is X', its Y is Y, and there is nothing for its Z. In the goal plus X Y Z of its outputs X and Y are given, and
-- Z is read off. In cp (lam [x] E' x) _ the E of cp-lam is [x] E' x. F y x beside c x y, under [x] [y], gives [y] [x] c x y; F x beside it gives none.
abbrev pub ValuesAreFound : Type 0
ValuesAreFound = (found_term plus_successor_case plus_s_head 3 ≡ Some (var 1)) × (found_term plus_successor_case plus_s_head 2 ≡ Some (var 0)) × (found_term plus_successor_case plus_s_head 1 ≡ None) × (found_term plus_output_case plus_asked 1 ≡ Some (var 0)) × (found_term plus_output_case plus_asked 3 ≡ Some (var 2)) × (found_term cp_lam_case (head_of cp_lam.type) 2 ≡ Some (lambda (applied_to 1 0))) × (read_off 2 (app (var 0) (app (var 1) nil)) (root (constant 0) (app (var 1) (app (var 0) nil))) ≡ Some (lambda (lambda (root (constant 0) (app (var 0) (app (var 1) nil)))))) × (read_off 2 (app (var 1) nil) (root (constant 0) (app (var 1) (app (var 0) nil))) ≡ None)

-- plus (s X') Y _ matches plus-s. plus X Y _ doesn't match plus-z; nor k X {F:nat -> nat} k (F z).
abbrev pub PlusMatches : Type 0
PlusMatches = Matches Addition plus_successor_case plus_s_head × (Matches Addition plus_input_goal plus_z_head → ⊥) × (Matches Applied applied_goal (head_of applied_clause.type) → ⊥)

-- So the first is an instance, and the others are none.
abbrev pub PlusIsInstance : Type 0
PlusIsInstance = IsInstanceOf Addition [] plus_successor_case plus_s_head × (IsInstanceOf Addition [] plus_input_goal plus_z_head → ⊥) × (IsInstanceOf Applied [] applied_goal (head_of applied_clause.type) → ⊥)

-- eq X Y doesn't match {Z:nat} eq Z Z: Z is read off as X, and Y isn't X.
abbrev pub TwoAreNotOne : Type 0
TwoAreNotOne = (found_term eq_goal (head_of eq_r.type) 0 ≡ Some (var 1)) × (MatchesByTerms eq_goal (head_of eq_r.type) → ⊥)
