-- What is still to be written on a page, the next one first.
use Rattle.std.specs.Prelude.{◌≡◌, ℕ, ◌≤◌, ◌⊎◌, List, [], ◌∷◌, ◌++◌, drop, length, map, reverse, option_map, codes}
use Rattle.std.specs.Global.{Global}
use Rattle.std.specs.Prelude.{Bool, Vec}
use Rattle.lf.specs.Entries.{signature_of}
use Rattle.lf.specs.Syntax.{LfType, atom, pi}
use Rattle.lf.specs.Typing.{Signature}
use Rattle.tw_fixity.specs.Names.{Names as Scope}
use Rattle.tw_terms.specs.View.{term_of, type_of}
use Rattle.tw_terms.specs.declared.canonical.Ty.{Ty}
use Rattle.tw_print.specs.Arguments as spec
use Rattle.tw_print.specs.ArgumentView.{argument_of}
use Rattle.tw_print.specs.Marks.{marks_of}
use Rattle.tw_print.specs.Names.{Scene}
use Rattle.tw_print.specs.Pieces.{Piece, token, space, render}
use Rattle.tw_print.specs.Showable.{AreShowable, IsShowable, IsShowableContext, IsShowableType}
use Rattle.tw_print.specs.Shown.{parts, spaced}
use Rattle.tw_print.specs.declared.arguments.Argument.{Argument}
use Rattle.tw_print.specs.declared.due.Due.{Due}
use Rattle.tw_print.specs.declared.page.Page.{Page}

-- a stack, the last one first
abbrev pub stacked : List Due → List Due
stacked ds = reverse ds

-- the pieces that it comes to, in a context and with the names of its variables
abbrev pub pieces_due : Scene → List Due → List LfType → Scope → List Piece
pieces_due s [] G ns = []
pieces_due s (Due.Word w ∷ ds) G ns = token w.items ∷ pieces_due s ds G ns
pieces_due s (Due.Opening ∷ ds) G ns = token (codes "(") ∷ pieces_due s ds G ns
pieces_due s (Due.Closing ∷ ds) G ns = token (codes ")") ∷ pieces_due s ds G ns
pieces_due s (Due.Space ∷ ds) G ns = space ∷ pieces_due s ds G ns
pieces_due s (Due.Arrow ∷ ds) G ns = space ∷ token (codes "->") ∷ space ∷ pieces_due s ds G ns
pieces_due s (Due.Bracket ∷ ds) G ns = token (codes "]") ∷ space ∷ pieces_due s ds G ns
pieces_due s (Due.Brace ∷ ds) G ns = token (codes "}") ∷ space ∷ pieces_due s ds G ns
pieces_due s (Due.Term m t n ∷ ds) G ns = (parts s n).term G ns (term_of m) (option_map type_of t) ++ pieces_due s ds G ns
pieces_due s (Due.Type a ms n ∷ ds) G ns = (parts s n).type G ns (type_of a) ++ pieces_due s ds G ns
pieces_due s (Due.Enter a x ∷ ds) G ns = pieces_due s ds (type_of a ∷ G) (x ∷ ns)
pieces_due s (Due.Leave ∷ ds) G ns = pieces_due s ds (drop 1 G) (drop 1 ns)

-- the variables in scope when all is written, and their names
abbrev pub context_after : List Due → List LfType → List LfType
context_after [] G = G
context_after (Due.Enter a x ∷ ds) G = context_after ds (type_of a ∷ G)
context_after (Due.Leave ∷ ds) G = context_after ds (drop 1 G)
context_after (_ ∷ ds) G = context_after ds G

abbrev pub scope_after : List Due → Scope → Scope
scope_after [] ns = ns
scope_after (Due.Enter a x ∷ ds) ns = scope_after ds (x ∷ ns)
scope_after (Due.Leave ∷ ds) ns = scope_after ds (drop 1 ns)
scope_after (_ ∷ ds) ns = scope_after ds ns

-- What is due can be shown in this context, and the marks of a type, the last one first, are those of its quantifiers.
abbrev pub AllFit : Signature → List LfType → List Due → Type 0
AllFit Σ G [] = Unit {0}
AllFit Σ G (Due.Term m t n ∷ ds) = IsShowable Σ G (term_of m) (option_map type_of t) × AllFit Σ G ds
AllFit Σ G (Due.Type a ms n ∷ ds) = IsShowableType Σ G (type_of a) × (reverse ms.items ≡ marks_of (type_of a)) × AllFit Σ G ds
AllFit Σ G (Due.Enter a x ∷ ds) = IsShowableType Σ G (type_of a) × AllFit Σ (type_of a ∷ G) ds
AllFit Σ G (Due.Leave ∷ ds) = AllFit Σ (drop 1 G) ds
AllFit Σ G (_ ∷ ds) = AllFit Σ G ds

-- these pieces are due before the others, of arguments that can be shown; the variables in scope are the same behind them
pub record Puts (s : Scene) (xs : List spec.Argument) (P : List LfType → Scope → List Piece) (old new : List Due) : Type 0 where
  pub pieces : (G : List LfType) (ns : Scope) → pieces_due s new G ns ≡ P G ns ++ pieces_due s old G ns
  pub context : (G : List LfType) → context_after new G ≡ context_after old G
  pub scope : (ns : Scope) → scope_after new ns ≡ scope_after old ns
  pub fits : (Σ : Signature) (G : List LfType) → AreShowable Σ G xs → AllFit Σ G old → AllFit Σ G new

-- this type is due before the others, with its marks
pub record PutsType (n : ℕ) (A : LfType) (old new : List Due) : Type 0 where
  pub type : Ty
  pub marks : Vec Bool Global
  pub is_of : type_of type ≡ A
  pub marked : reverse marks.items ≡ marks_of A
  pub puts : new ≡ Due.Type type marks n ∷ old

-- the domain of an arrow is due before the others
abbrev pub PutsDomain : ℕ → LfType → List Due → List Due → Type 0
PutsDomain n (pi A B) old new = (middle : List Due) × PutsType n (pi A B) (Due.Closing ∷ old) middle × (new ≡ Due.Opening ∷ middle)
PutsDomain n (atom a S) old new = PutsType n (atom a S) old new

-- of the arguments those behind the first so many are due, each after one space; the others are left
pub record PutsSpaced (s : Scene) (n keep : ℕ) (xs ys : List Argument) (old new : List Due) : Type 0 where
  pub tail : List Argument
  pub split : xs ≡ ys ++ tail
  pub kept : (tail ≡ []) ⊎ (keep ≤ length ys)
  pub puts : Puts s (map argument_of tail) (λ G ns. spaced (parts s n) s G ns (map argument_of tail)) old new

-- what is written and what is still due come to the same text, and to the same variables in scope
pub record Goes (s : Scene) (p q : Page) (old new : List Due) : Type 0 where
  pub out : q.out.items ++ render (pieces_due s new q.context q.scope) ≡ p.out.items ++ render (pieces_due s old p.context p.scope)
  pub context : context_after new q.context ≡ context_after old p.context
  pub scope : scope_after new q.scope ≡ scope_after old p.scope
  pub shown : IsShowableContext (signature_of s.entries) q.context
  pub fits : AllFit (signature_of s.entries) q.context new

-- Of these pieces some are written, and the others are due before what was. What is due can be shown.
pub record Begins (s : Scene) (p q : Page) (ps : List Piece) (old new : List Due) : Type 0 where
  pub out : q.out.items ++ render (pieces_due s new p.context p.scope) ≡ p.out.items ++ render (ps ++ pieces_due s old p.context p.scope)
  pub context : q.context ≡ p.context
  pub scope : q.scope ≡ p.scope
  pub context_after : context_after new p.context ≡ context_after old p.context
  pub scope_after : scope_after new p.scope ≡ scope_after old p.scope
  pub fits : AllFit (signature_of s.entries) p.context new
