-- Words say one thing, and bad words say nothing.
use Rattle.std.proofs.Common.{◌≡◌, ◌≤◌, ◌∙◌, ℕ, List, None, Some, refl, sym, ap, subst}
use Rattle.std.specs.declared.option.Option.{Option}
use Rattle.tw_command.specs.Limits.{steps_limit}
use Rattle.tw_words.specs.Reading.{Said}
use Rattle.tw_words.specs.Words.{AreBad, AreWords, HasBadSteps, IsBad, StepsAre}

steps_are_one : (word : Option (List ℕ)) (a b : Option ℕ) → StepsAre word a → StepsAre word b → a ≡ b
steps_are_one None None None p q = refl
steps_are_one None None (Some n) p q = absurd q
steps_are_one None (Some n) b p q = absurd p
steps_are_one (Some w) None b p q = absurd p
steps_are_one (Some w) (Some n) None p q = absurd q
steps_are_one (Some w) (Some n) (Some m) p q = ap (λ k. Some k) (p.value ∙ sym q.value)

-- the parts of one reading
one_value : (s t : Said) → Some s ≡ Some t → s.0 ≡ t.0
one_value s t same = ap part same where
  part : Option Said → Option (List ℕ)
  part None = s.0
  part (Some p) = p.0

one_files : (s t : Said) → Some s ≡ Some t → s.1 ≡ t.1
one_files s t same = ap part same where
  part : Option Said → List (List ℕ)
  part None = s.1
  part (Some p) = p.1

pub words_say_one_thing : (words : List (List ℕ)) (a b : Option ℕ) (fs gs : List (List ℕ)) → AreWords words a fs → AreWords words b gs → (a ≡ b) × (fs ≡ gs)
words_say_one_thing words a b fs gs p q =
    let same = sym p.read ∙ q.read in
    let value : p.value ≡ q.value = one_value (p.value, fs) (q.value, gs) same in
    (steps_are_one q.value a b (subst (λ v. StepsAre v a) value p.steps_are) q.steps_are, one_files (p.value, fs) (q.value, gs) same)

no_steps : (word : Option (List ℕ)) (a : Option ℕ) → HasBadSteps word → StepsAre word a → ⊥
no_steps None a bad is = absurd bad
no_steps (Some w) None bad is = absurd is
no_steps (Some w) (Some n) bad is = bad n is

pub bad_words_say_nothing : (words : List (List ℕ)) (a : Option ℕ) (fs : List (List ℕ)) → AreBad words → AreWords words a fs → ⊥
bad_words_say_nothing words a fs bad p = no_steps p.value a (subst IsBad p.read bad) p.steps_are

-- the steps are in their range
pub steps_in_range : (words : List (List ℕ)) (n : ℕ) (fs : List (List ℕ)) → AreWords words (Some n) fs → (1 ≤ n) × (n ≤ steps_limit)
steps_in_range words n fs p = go p.value p.steps_are where
  go : (word : Option (List ℕ)) → StepsAre word (Some n) → (1 ≤ n) × (n ≤ steps_limit)
  go None is = absurd is
  go (Some w) is = (is.least, is.most)
