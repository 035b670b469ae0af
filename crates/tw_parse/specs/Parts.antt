-- What the parts of a sequence say of their outlines.
use Rattle.std.specs.Prelude.{◌≡◌, ℕ, ◌+◌, List, Bool, true, false, Option, None, Some}
use Rattle.tw_lexer.specs.declared.place.Place.{Place}
use Rattle.tw_parse.specs.Grammar.{Item, bound}
use Rattle.tw_parse.specs.Outlines.{Outline, Node, Begins, Sequence, Binds}
use Rattle.tw_parse.specs.Readings.{IsItem}
use Rattle.tw_parse.specs.Faults.{first_sign, leaf_of}
use Rattle.tw_parse.specs.Piles.{state_of, step}
use Rattle.tw_parse.specs.Sources.{lexemes_from}
use Rattle.tw_parse.specs.Telling.{Tells, TellsNode}
use Rattle.tw_parse.specs.Syntax.{Domain, untyped, typed}
use Rattle.tw_parse.specs.declared.pile.Pile.{Pile}
use Rattle.tw_parse.specs.declared.source.Source.{Source}
use Rattle.tw_parse.specs.View.{term_of}
use Rattle.tw_parse.specs.Words.{Lexeme}
use Rattle.tw_parse.specs.declared.parts.Head.{Head}
use Rattle.tw_parse.specs.declared.parts.Part.{Part}
use Rattle.tw_parse.specs.declared.parts.Part.TheVariants.{Term, AtFault}
use Rattle.tw_parse.specs.declared.words.Binder.{Binder}

-- the part is the binder over the body, or the first fault of its type and its body
abbrev pub BoundBy : Binder → List ℕ → Place → Domain → Part → Part → Type 0
BoundBy binder x at A (Term b) (Term t) = term_of t ≡ bound binder x at A (term_of b)
BoundBy binder x at A (AtFault place) (AtFault first) = first ≡ place
BoundBy binder x at A _ _ = ⊥

abbrev pub BoundOver : Binder → List ℕ → Place → Option Part → Part → Part → Type 0
BoundOver binder x at None body part = BoundBy binder x at untyped body part
BoundOver binder x at (Some (Term A)) body part = BoundBy binder x at (typed (term_of A)) body part
BoundOver binder x at (Some (AtFault place)) body part = part ≡ AtFault place

abbrev pub Bound : Head → Part → Part → Type 0
Bound head body part = BoundOver head.binder head.name head.at head.domain body part

-- the tokens from `at` are the head of a binder, and its body begins with the token `next`: a sequence there makes a node, which is told by what binds its part
abbrev pub Leads : Source → ℕ → Head → ℕ → Type 0
Leads source at head next = (O : Outline) (rest : List Lexeme) → Sequence source.fixities.now (lexemes_from source next) O rest
    → (n : Node) × Binds source.fixities.now (lexemes_from source at) n rest × ((body part : Part) → Tells O body → Bound head body part → TellsNode n part)

-- the second pile is the first with one more item, whose token is a node by itself, or the token is none such
abbrev pub Takes : Source → ℕ → Pile → Pile → Bool → Type 0
Takes source at old new true = (n : Node) × (i : Item) × Begins source.fixities.now (lexemes_from source at) n (lexemes_from source (at + 1)) × IsItem n i × (state_of new ≡ step (state_of old) i) × (new.inner ≡ old.inner)
Takes source at old new false = (new ≡ old) × (first_sign source at ≡ None) × (leaf_of (lexemes_from source at) ≡ None)
