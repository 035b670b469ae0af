-- What of a text is still to be walked through, the next one first.
use Rattle.std.specs.Prelude.{◌≡◌, ℕ, suc, ◌-◌, ◌≤◌, ◌⊎◌, List, [], ◌∷◌, ◌++◌, drop, length, map, reverse, option_map}
use Rattle.lf.specs.Entries.{signature_of}
use Rattle.lf.specs.Syntax.{LfType}
use Rattle.lf.specs.Typing.{Signature}
use Rattle.tw_print.specs.Arguments as spec
use Rattle.tw_print.specs.ArgumentView.{argument_of}
use Rattle.tw_print.specs.Names.{Scene}
use Rattle.tw_print.specs.Showable.{AreShowable, IsShowable, IsShowableContext, IsShowableType}
use Rattle.tw_print.specs.declared.arguments.Argument.{Argument}
use Rattle.tw_shown.specs.Shown.{of_arguments, outside, shown_within}
use Rattle.tw_shown.specs.declared.due.Due.{Due}
use Rattle.tw_shown.specs.declared.walk.Walk.{Walk}
use Rattle.tw_terms.specs.View.{term_of, type_of}

-- a stack, the last one first
abbrev pub stacked : List Due → List Due
stacked ds = reverse ds

-- the variables that it shows, as seen from outside so many binders
abbrev pub shown_due : Scene → List Due → List LfType → ℕ → List ℕ
shown_due s [] G b = []
shown_due s (Due.Term m t n ∷ ds) G b = outside b ((shown_within s n).term G (term_of m) (option_map type_of t)) ++ shown_due s ds G b
shown_due s (Due.Type a n ∷ ds) G b = outside b ((shown_within s n).type G (type_of a)) ++ shown_due s ds G b
shown_due s (Due.Enter a ∷ ds) G b = shown_due s ds (type_of a ∷ G) (suc b)
shown_due s (Due.Leave ∷ ds) G b = shown_due s ds (drop 1 G) (b - 1)

-- the variables in scope when all was walked through, and how many binders stand around it then
abbrev pub context_after : List Due → List LfType → List LfType
context_after [] G = G
context_after (Due.Enter a ∷ ds) G = context_after ds (type_of a ∷ G)
context_after (Due.Leave ∷ ds) G = context_after ds (drop 1 G)
context_after (_ ∷ ds) G = context_after ds G

abbrev pub binders_after : List Due → ℕ → ℕ
binders_after [] b = b
binders_after (Due.Enter a ∷ ds) b = binders_after ds (suc b)
binders_after (Due.Leave ∷ ds) b = binders_after ds (b - 1)
binders_after (_ ∷ ds) b = binders_after ds b

-- what is due can be shown in this context
abbrev pub AllFit : Signature → List LfType → List Due → Type 0
AllFit Σ G [] = Unit {0}
AllFit Σ G (Due.Term m t n ∷ ds) = IsShowable Σ G (term_of m) (option_map type_of t) × AllFit Σ G ds
AllFit Σ G (Due.Type a n ∷ ds) = IsShowableType Σ G (type_of a) × AllFit Σ G ds
AllFit Σ G (Due.Enter a ∷ ds) = IsShowableType Σ G (type_of a) × AllFit Σ (type_of a ∷ G) ds
AllFit Σ G (Due.Leave ∷ ds) = AllFit Σ (drop 1 G) ds

-- these arguments are due before the others
pub record Puts (s : Scene) (n : ℕ) (xs : List spec.Argument) (old new : List Due) : Type 0 where
  pub shown : (G : List LfType) (b : ℕ) → shown_due s new G b ≡ outside b (of_arguments (shown_within s n) s G xs) ++ shown_due s old G b
  pub context : (G : List LfType) → context_after new G ≡ context_after old G
  pub binders : (b : ℕ) → binders_after new b ≡ binders_after old b
  pub fits : (Σ : Signature) (G : List LfType) → AreShowable Σ G xs → AllFit Σ G old → AllFit Σ G new

-- of the arguments those behind the first so many are due, and the others are left
pub record PutsBehind (n keep : ℕ) (xs ys : List Argument) (old new : List Due) : Type 0 where
  pub tail : List Argument
  pub split : xs ≡ ys ++ tail
  pub kept : (tail ≡ []) ⊎ (keep ≤ length ys)
  pub puts : (s : Scene) → Puts s n (map argument_of tail) old new

-- What was shown and what is due come to the same variables, and to the same ones in scope.
pub record Goes (s : Scene) (p q : Walk) (old new : List Due) : Type 0 where
  pub shown : q.shown.items ++ shown_due s new q.context q.binders ≡ p.shown.items ++ shown_due s old p.context p.binders
  pub context : context_after new q.context ≡ context_after old p.context
  pub binders : binders_after new q.binders ≡ binders_after old p.binders
  pub showable : IsShowableContext (signature_of s.entries) q.context
  pub fits : AllFit (signature_of s.entries) q.context new

-- Of these variables some were shown, and the others are due before what was.
pub record Begins (s : Scene) (p q : Walk) (is : List ℕ) (old new : List Due) : Type 0 where
  pub shown : q.shown.items ++ shown_due s new p.context p.binders ≡ p.shown.items ++ (outside p.binders is ++ shown_due s old p.context p.binders)
  pub context : q.context ≡ p.context
  pub binders : q.binders ≡ p.binders
  pub context_after : context_after new p.context ≡ context_after old p.context
  pub binders_after : binders_after new p.binders ≡ binders_after old p.binders
  pub fits : AllFit (signature_of s.entries) p.context new
