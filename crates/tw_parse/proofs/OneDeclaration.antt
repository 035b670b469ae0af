-- Tokens are one declaration at most.
use Rattle.std.proofs.Common.{◌≡◌, ℕ, List, [], ◌∷◌, ◌++◌, map, Bool, false, Option, None, Some, refl, sym, ap, ◌∙◌, subst, ◌⊎◌, inl, inr}
use Rattle.tw_fixity.specs.declared.table.Fix.{Fix}
use Rattle.tw_lexer.specs.declared.place.Place.{Place}
use Rattle.tw_parse.specs.Failing.{is_item}
use Rattle.tw_parse.specs.Keywords.{form_of, fix_by, is_identifier}
use Rattle.tw_parse.specs.Laws.{OutlinesAreUnique}
use Rattle.tw_parse.specs.Outlines.{Table, Outline, Sequence, Head, a_definition, a_check, an_abbreviation, bytes_in, named, Shapes, declares, defines, defines_typed, prefers, prefers_both, gives}
use Rattle.tw_parse.specs.Syntax.{DeclarationOf, declare, define, prefer, give}
use Rattle.tw_parse.specs.Words.{Lexeme, first_word, first_bytes}
use Rattle.tw_parse.specs.declared.words.Form.{Form}
use Rattle.tw_parse.specs.declared.words.Form.TheVariants.{Abbreviation, Preference, Infix, Prefix, Postfix}
use Rattle.tw_parse.specs.declared.words.Word.{Word}
use Rattle.tw_parse.specs.declared.words.Word.TheVariants.{Name, Underscore, Keyword, Equals, Colon, Dot}
use Rattle.tw_parse.proofs.Misfits.{head_form, no_head, no_given_abbreviation, no_given_preference, IsGiven, given_shape, same_row, same_run}
use Rattle.tw_parse.proofs.OneOutline.{SameSequence, sequence_once}

-- What is defined or declared

record SameHead (name other : Option (List ℕ)) (b c : Bool) (rest others : List Lexeme) : Type 0 where
  names : name ≡ other
  flags : b ≡ c
  rests : rest ≡ others

head_once : {tokens rest others : List Lexeme} {name other : Option (List ℕ)} {b c : Bool} → Head tokens name b rest → Head tokens other c others → SameHead name other b c rest others
head_once (a_definition w) (a_definition v) = record { names = refl; flags = refl; rests = refl }
head_once (a_definition w) (a_check v) = let clash : Name ≡ Underscore = sym w ∙ v in absurd cc
head_once (a_definition w) (an_abbreviation v f u) = let clash : Name ≡ Keyword = sym w ∙ v in absurd cc
head_once (a_check w) (a_definition v) = let clash : Underscore ≡ Name = sym w ∙ v in absurd cc
head_once (a_check w) (a_check v) = record { names = refl; flags = refl; rests = refl }
head_once (a_check w) (an_abbreviation v f u) = let clash : Underscore ≡ Keyword = sym w ∙ v in absurd cc
head_once (an_abbreviation w f u) (a_definition v) = let clash : Keyword ≡ Name = sym w ∙ v in absurd cc
head_once (an_abbreviation w f u) (a_check v) = let clash : Keyword ≡ Underscore = sym w ∙ v in absurd cc
head_once (an_abbreviation w f u) (an_abbreviation v g t) = record { names = refl; flags = refl; rests = refl }

-- behind the name: a type, a term, or both
data Body (table : Table) : List Lexeme → Option Outline → Option Outline → Type 0 where
  type_alone : {colon dot : Lexeme} {tokens : List Lexeme} {U : Outline} → colon.word ≡ Colon → Sequence table tokens U (dot ∷ []) → dot.word ≡ Dot → Body table (colon ∷ tokens) (Some U) None
  term_alone : {equals dot : Lexeme} {tokens : List Lexeme} {M : Outline} → equals.word ≡ Equals → Sequence table tokens M (dot ∷ []) → dot.word ≡ Dot → Body table (equals ∷ tokens) None (Some M)
  both : {colon equals dot : Lexeme} {tokens next : List Lexeme} {U M : Outline} → colon.word ≡ Colon → Sequence table tokens U (equals ∷ next) → equals.word ≡ Equals → Sequence table next M (dot ∷ []) → dot.word ≡ Dot
      → Body table (colon ∷ tokens) (Some U) (Some M)

record SameBody (T S M N : Option Outline) : Type 0 where
  types : T ≡ S
  terms : M ≡ N

same_outline : (table : Table) (tokens rest others : List Lexeme) (x y : Lexeme) (O P : Outline) → Sequence table tokens O (x ∷ rest) → is_item x.word ≡ false → Sequence table tokens P (y ∷ others) → is_item y.word ≡ false → SameSequence O P (x ∷ rest) (y ∷ others)
same_outline table tokens rest others x y O P s i t j = sequence_once table s P (y ∷ others) t i j

-- a sequence doesn't end at both of two tokens
no_two_ends : (table : Table) (tokens rest others : List Lexeme) (x y : Lexeme) (O P : Outline) (v w : Word) → Sequence table tokens O (x ∷ rest) → x.word ≡ v → is_item v ≡ false → Sequence table tokens P (y ∷ others) → y.word ≡ w → is_item w ≡ false → v ≡ w
no_two_ends table tokens rest others x y O P v w s e i t f j =
    let same = same_outline table tokens rest others x y O P s (ap is_item e ∙ i) t (ap is_item f ∙ j) in
    sym e ∙ ap first_word same.rests ∙ f

body_once : (table : Table) {tokens : List Lexeme} {T S M N : Option Outline} → Body table tokens T M → Body table tokens S N → SameBody T S M N
body_once table (type_alone {dot = d} {tokens = ts} {U = U} l s e) (type_alone {dot = g} {U = W} k t f) =
    let same = same_outline table ts [] [] d g U W s (ap is_item e) t (ap is_item f) in
    record { types = ap Some same.outlines; terms = refl }
body_once table (type_alone l s e) (term_alone k t f) = let clash : Colon ≡ Equals = sym l ∙ k in absurd cc
body_once table (type_alone {dot = d} {tokens = ts} {U = U} l s e) (both {equals = q} {next = next} {U = W} k t f u g) = let clash : Dot ≡ Equals = no_two_ends table ts [] next d q U W Dot Equals s e refl t f refl in absurd cc
body_once table (term_alone l s e) (type_alone k t f) = let clash : Equals ≡ Colon = sym l ∙ k in absurd cc
body_once table (term_alone {dot = d} {tokens = ts} {M = M} l s e) (term_alone {dot = g} {M = N} k t f) =
    let same = same_outline table ts [] [] d g M N s (ap is_item e) t (ap is_item f) in
    record { types = refl; terms = ap Some same.outlines }
body_once table (term_alone l s e) (both k t f u g) = let clash : Equals ≡ Colon = sym l ∙ k in absurd cc
body_once table (both {equals = q} {tokens = ts} {next = next} {U = U} l s e u g) (type_alone {dot = d} {U = W} k t f) = let clash : Equals ≡ Dot = no_two_ends table ts next [] q d U W Equals Dot s e refl t f refl in absurd cc
body_once table (both l s e u g) (term_alone k t f) = let clash : Colon ≡ Equals = sym l ∙ k in absurd cc
body_once table (both {equals = q} {dot = d} {tokens = ts} {next = next} {U = U} {M = M} l s e u g) (both {equals = p} {dot = c} {next = after} {U = W} {M = N} k t f v h) =
    let first = same_outline table ts next after q p U W s (ap is_item e) t (ap is_item f) in
    let rests : q ∷ next ≡ p ∷ after = first.rests in
    let tail : after ≡ next = cc in
    let last = same_outline table next [] [] d c M N u (ap is_item g) (subst (λ (us : List Lexeme). Sequence table us N (c ∷ [])) tail v) (ap is_item h) in
    record { types = ap Some first.outlines; terms = ap Some last.outlines }

abbrev name_place : List Lexeme → Option Place
name_place [] = None
name_place (x ∷ xs) = Some x.at

-- the declaration of a name with this type and this term, if they are written
abbrev made : Option (List ℕ) → Bool → Option Place → Option Outline → Option Outline → Option (DeclarationOf Outline)
made (Some x) b (Some at) (Some U) None = Some (declare x at U)
made name b at T (Some M) = Some (define name T M b)
made name b at T None = None

record Termed (table : Table) (tokens : List Lexeme) (D : DeclarationOf Outline) : Type 0 where
  name : Option (List ℕ)
  flag : Bool
  rest : List Lexeme
  type : Option Outline
  term : Option Outline
  head : Head tokens name flag rest
  body : Body table rest type term
  is : made name flag (name_place tokens) type term ≡ Some D

-- no keyword but that of an abbreviation stands first
abbrev IsTermed : List Lexeme → Type 0
IsTermed tokens = first_word tokens ≡ Keyword → form_of (first_bytes tokens) ≡ Some Abbreviation

termed : (table : Table) (tokens : List Lexeme) (D : DeclarationOf Outline) → Shapes table tokens D → IsTermed tokens → Termed table tokens D
termed table tokens D (declares {x = x} {colon = c} {tokens = ts} {U = U} w l s e) h = record { name = Some x.bytes; flag = false; rest = c ∷ ts; type = Some U; term = None; head = a_definition w; body = type_alone l s e; is = refl }
termed table tokens D (defines {equals = q} {tokens = ts} {name = name} {b = b} {M = M} d l s e) h = record { name = name; flag = b; rest = q ∷ ts; type = None; term = Some M; head = d; body = term_alone l s e; is = refl }
termed table tokens D (defines_typed {colon = c} {tokens = ts} {name = name} {b = b} {U = U} {M = M} d l s e t f) h =
    record { name = name; flag = b; rest = c ∷ ts; type = Some U; term = Some M; head = d; body = both l s e t f; is = refl }
termed table tokens D (prefers w f a x u e) h = let clash : Some Preference ≡ Some Abbreviation = sym f ∙ h w in absurd cc
termed table tokens D (prefers_both w f a x u y l e) h = let clash : Some Preference ≡ Some Abbreviation = sym f ∙ h w in absurd cc
termed table tokens D (gives {keyword = k} words xs dot {fix = fix} w t f n e) h = absurd (no_given_abbreviation (form_of k.bytes) (map bytes_in words) fix (h w) f)

one_made : (name other : Option (List ℕ)) (b c : Bool) (at : Option Place) (T S M N : Option Outline) → name ≡ other → b ≡ c → T ≡ S → M ≡ N → made name b at T M ≡ made other c at S N
one_made name other b c at T S M N names flags types terms =
    ap (λ (n : Option (List ℕ)). made n b at T M) names ∙ ap (λ (f : Bool). made other f at T M) flags ∙ ap (λ (t : Option Outline). made other c at t M) types ∙ ap (λ (m : Option Outline). made other c at S m) terms

some_same : (D E : DeclarationOf Outline) → Some D ≡ Some E → D ≡ E
some_same D E e = let same : D ≡ E = cc in same

termed_once : (table : Table) (tokens : List Lexeme) (D E : DeclarationOf Outline) → Termed table tokens D → Termed table tokens E → D ≡ E
termed_once table tokens D E t u =
    let heads = head_once t.head u.head in
    let bodies = body_once table t.body (subst (λ (ts : List Lexeme). Body table ts u.type u.term) (sym heads.rests) u.body) in
    some_same D E (sym t.is ∙ one_made t.name u.name t.flag u.flag (name_place tokens) t.type u.type t.term u.term heads.names heads.flags bodies.types bodies.terms ∙ u.is)

-- Preferences

abbrev preference_of : List Lexeme → Option (DeclarationOf Outline)
preference_of (k ∷ a ∷ x ∷ dot ∷ []) = Some (prefer (named a) x.bytes None)
preference_of (k ∷ a ∷ x ∷ y ∷ dot ∷ []) = Some (prefer (named a) x.bytes (Some y.bytes))
preference_of tokens = None

preferred : (table : Table) (tokens : List Lexeme) (D : DeclarationOf Outline) → Shapes table tokens D → first_word tokens ≡ Keyword → form_of (first_bytes tokens) ≡ Some Preference → preference_of tokens ≡ Some D
preferred table tokens D (declares w k s e) is form = cc
preferred table tokens D (defines h k s e) is form = absurd (no_head h is Preference form (λ e. cc))
preferred table tokens D (defines_typed h k s g t e) is form = absurd (no_head h is Preference form (λ e. cc))
preferred table tokens D (prefers w f a x u e) is form = refl
preferred table tokens D (prefers_both w f a x u y l e) is form = refl
preferred table tokens D (gives {keyword = k} words xs dot {fix = fix} w t f n e) is form = absurd (no_given_preference (form_of k.bytes) (map bytes_in words) fix form f)

-- Operators

given_once : (form : Form) (tokens : List Lexeme) (D E : DeclarationOf Outline) → IsGiven form tokens D → IsGiven form tokens E → D ≡ E
given_once form tokens D E g h =
    let rows = same_row form g.words h.words (g.xs ++ g.dot ∷ []) (h.xs ++ h.dot ∷ []) g.fix h.fix g.row h.row (sym g.split ∙ h.split) in
    let run = same_run (g.dot ∷ []) (h.dot ∷ []) g.spelled h.spelled (ap is_identifier g.ends) (ap is_identifier h.ends) rows.behind in
    g.is ∙ ap (λ (fix : Fix). give fix (g.name ∷ g.names)) rows.fixes ∙ ap (give h.fix) run.names_same ∙ sym h.is

-- the form of a keyword that has a row
record HasForm (o : Option Form) : Type 0 where
  form : Form
  is : o ≡ Some form
  no_abbreviation : form ≡ Abbreviation → ⊥
  no_preference : form ≡ Preference → ⊥

row_form : (o : Option Form) (words : List (List ℕ)) (fix : Fix) → fix_by o words ≡ Some fix → HasForm o
row_form None words fix e = cc
row_form (Some Abbreviation) words fix e = cc
row_form (Some Preference) words fix e = cc
row_form (Some Infix) words fix e = record { form = Infix; is = refl; no_abbreviation = λ f. cc; no_preference = λ f. cc }
row_form (Some Prefix) words fix e = record { form = Prefix; is = refl; no_abbreviation = λ f. cc; no_preference = λ f. cc }
row_form (Some Postfix) words fix e = record { form = Postfix; is = refl; no_abbreviation = λ f. cc; no_preference = λ f. cc }

record IsPreferring (tokens : List Lexeme) : Type 0 where
  keyword : first_word tokens ≡ Keyword
  form : form_of (first_bytes tokens) ≡ Some Preference

record IsGiving (tokens : List Lexeme) : Type 0 where
  keyword : first_word tokens ≡ Keyword
  has : HasForm (form_of (first_bytes tokens))

kind : (table : Table) (tokens : List Lexeme) (D : DeclarationOf Outline) → Shapes table tokens D → IsTermed tokens ⊎ IsPreferring tokens ⊎ IsGiving tokens
kind table tokens D (declares w l s e) = inl (λ is. let clash : Name ≡ Keyword = sym w ∙ is in absurd cc)
kind table tokens D (defines h l s e) = inl (λ is. (head_form h is).0)
kind table tokens D (defines_typed h l s g t e) = inl (λ is. (head_form h is).0)
kind table tokens D (prefers w f a x u e) = inr (inl (record { keyword = w; form = f }))
kind table tokens D (prefers_both w f a x u y l e) = inr (inl (record { keyword = w; form = f }))
kind table tokens D (gives {keyword = k} words xs dot {fix = fix} w t f n e) = inr (inr (record { keyword = w; has = row_form (form_of k.bytes) (map bytes_in words) fix f }))

pub one_outline : OutlinesAreUnique
one_outline table tokens D E s t =
    elim (kind table tokens D s) [
      | inl h ↦ termed_once table tokens D E (termed table tokens D s h) (termed table tokens E t h)
      | inr (inl h) ↦ some_same D E (sym (preferred table tokens D s h.keyword h.form) ∙ preferred table tokens E t h.keyword h.form)
      | inr (inr h) ↦ given_once h.has.form tokens D E (given_shape table h.has.form tokens D h.has.no_abbreviation h.has.no_preference s h.keyword h.has.is)
          (given_shape table h.has.form tokens E h.has.no_abbreviation h.has.no_preference t h.keyword h.has.is)
    ]
