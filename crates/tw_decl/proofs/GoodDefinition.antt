-- A good text that leaves something out: `d = c.`, where `o : type.` and `c : o.` are declared. The type of the definition isn't written.
use Rattle.std.proofs.Common.{◌≡◌, ℕ, ◌<◌, zero, List, [], ◌∷◌, Bool, false, Option, None, Some, Ok, codes, drop, refl, sym, ap, ap₂, ◌∙◌, subst, lit<, lit≤, arith, inl, inr}
use Rattle.std.specs.FinMap.{get-empty}
use Rattle.lf.specs.Depth.{depth, depth_limit, kind_depth, type_depth}
use Rattle.lf.specs.Entries.{Body, Entry, declare_constant, declare_definition, declare_family, entry, signature_of}
use Rattle.lf.specs.Eta.{eta_expand}
use Rattle.lf.specs.Syntax.{Kind, LfType, Skeleton, Spine, Term as LfTerm, atom as lf_atom, base, constant, nil, root, skeleton, star as lf_star}
use Rattle.lf_unification.specs.Putting.{PutsIn, PutsInSpine, PutsInType, put_at_rigid, put_in_atom, put_nowhere}
use Rattle.lf_unification.specs.Unifiers.{Binding}
use Rattle.lf_elaboration.specs.Completions.{Completes, FreeValue, TakesAny, any_next, any_none, constant_completed, definition_completed}
use Rattle.lf_elaboration.specs.Elaboration.{Infers, TakesNew, at_constant, at_definition, takes_next, takes_none}
use Rattle.lf_elaboration.specs.Principal.{Completion, CompletesBody, IsCompletion, WrittenBody, written_definition}
use Rattle.lf_elaboration.specs.PrincipalLaws.{ElaboratesBody}
use Rattle.lf_elaboration.specs.SiteLaws.{total}
use Rattle.lf_elaboration.specs.Sites.{body_spots}
use Rattle.lf_elaboration.specs.State.{State}
use Rattle.lf_elaboration.specs.Written.{Written}
use Rattle.lf_elaboration.specs.Written as forms
use Rattle.tw_approx.specs.Answer.{HasSkeletons, Rows}
use Rattle.tw_approx.specs.Names.{IsFreeVariable}
use Rattle.tw_approx.specs.Nesting.{declared_depth}
use Rattle.tw_approx.proofs.Sequences.{parts_of}
use Rattle.tw_approx.proofs.Ways.{not_twice}
use Rattle.tw_elaborate.specs.Bodies.{BodyDeep, FromNothingDeep, deep_behind_frees, deep_definition_body, deep_frees}
use Rattle.tw_elaborate.specs.Deep.{InfersDeep, deep_defined_implicit, deep_definition, deep_implicit}
use Rattle.tw_fixity.specs.Rows.{name_order}
use Rattle.tw_lexer.proofs.Pieces.{pieces-at, pieces-end}
use Rattle.tw_lexer.specs.Characters.{first_piece, pieces_from}
use Rattle.tw_lexer.specs.Tokens.{first_token, find, between, ThroughDot}
use Rattle.tw_lexer.specs.declared.place.Place.{Place}
use Rattle.tw_lexer.specs.declared.token.Token.{Token}
use Rattle.tw_lexer.specs.declared.token.TokenKind.TheVariants.{Ident, Dot, End}
use Rattle.tw_metas.specs.State as metas
use Rattle.tw_parse.proofs.Once.{once}
use Rattle.tw_parse.specs.Grammar.{atom, ReadsOnce}
use Rattle.tw_parse.specs.Outlines.{outline, none, more, leaf, a_definition, a_name, empty, one_more, plain, defines}
use Rattle.tw_parse.specs.Readings.{means, no_items, one_item, a_leaf, defined}
use Rattle.tw_parse.specs.Syntax.{Declaration, Term, define, identifier}
use Rattle.tw_parse.specs.Words.{Lexeme}
use Rattle.tw_parse.specs.declared.sign.Level.TheVariants as levels
use Rattle.tw_parse.specs.declared.words.Word.TheVariants as words
use Rattle.tw_recon.specs.Causes.{BodyReachesDeep}
use Rattle.tw_recon.specs.Reading.{BodyIsDeep}
use Rattle.tw_resolve.specs.Resolved.{resolved_body}
use Rattle.law_explicit_agrees.proofs.DeepNames.{no_frees_deep, none_deep}
use Rattle.law_explicit_agrees.proofs.Fitting.{some_is}
use Rattle.law_explicit_agrees.proofs.Full.{no_equation}
use Rattle.law_explicit_agrees.proofs.Nothing.{none_is_not_some}
use Rattle.law_explicit_agrees.proofs.Shallow.{IsShallow, nothing_deep, unmade_shallow}
use Rattle.tw_decl.specs.View.{IsSound}
use Rattle.tw_decl.specs.Laws.{IsCompletable, IsGood}
use Rattle.tw_decl.specs.Examples.{DefinitionIsGood, c_entry, o_entry, with_constant}

abbrev text : List ℕ
text = codes "d = c."

abbrev place : ℕ → Place
place column = record { line = 1; column = column }

-- The text's tokens

from_6 : pieces_from text 6 ≡ []
from_6 = pieces-end text 6 (lit≤ tt)

from_5 : pieces_from text 5 ≡ first_piece (drop 5 text) ∷ []
unfolding first_piece
from_5 = pieces-at text 5 (lit< tt) ∙ ap (λ ps. first_piece (drop 5 text) ∷ ps) from_6

from_4 : pieces_from text 4 ≡ first_piece (drop 4 text) ∷ first_piece (drop 5 text) ∷ []
unfolding first_piece
from_4 = pieces-at text 4 (lit< tt) ∙ ap (λ ps. first_piece (drop 4 text) ∷ ps) from_5

from_3 : pieces_from text 3 ≡ first_piece (drop 3 text) ∷ first_piece (drop 4 text) ∷ first_piece (drop 5 text) ∷ []
unfolding first_piece
from_3 = pieces-at text 3 (lit< tt) ∙ ap (λ ps. first_piece (drop 3 text) ∷ ps) from_4

from_2 : pieces_from text 2 ≡ first_piece (drop 2 text) ∷ first_piece (drop 3 text) ∷ first_piece (drop 4 text) ∷ first_piece (drop 5 text) ∷ []
unfolding first_piece
from_2 = pieces-at text 2 (lit< tt) ∙ ap (λ ps. first_piece (drop 2 text) ∷ ps) from_3

from_1 : pieces_from text 1 ≡ first_piece (drop 1 text) ∷ first_piece (drop 2 text) ∷ first_piece (drop 3 text) ∷ first_piece (drop 4 text) ∷ first_piece (drop 5 text) ∷ []
unfolding first_piece
from_1 = pieces-at text 1 (lit< tt) ∙ ap (λ ps. first_piece (drop 1 text) ∷ ps) from_2

from_0 : pieces_from text 0 ≡ first_piece (drop 0 text) ∷ first_piece (drop 1 text) ∷ first_piece (drop 2 text) ∷ first_piece (drop 3 text) ∷ first_piece (drop 4 text) ∷ first_piece (drop 5 text) ∷ []
unfolding first_piece
from_0 = pieces-at text 0 (lit< tt) ∙ ap (λ ps. first_piece (drop 0 text) ∷ ps) from_1

abbrev tokens : List Token
tokens =
    record { kind = Ident; from = 0; upto = 1; at = place 1 } ∷ record { kind = Ident; from = 2; upto = 3; at = place 3 } ∷ record { kind = Ident; from = 4; upto = 5; at = place 5 } ∷ record { kind = Dot; from = 5; upto = 6; at = place 6 } ∷ []

abbrev last : Token
last = record { kind = End; from = 6; upto = 6; at = place 7 }

through : ThroughDot text 0 tokens 6
unfolding first_piece
through = (ap (λ ps. find text 0 ps between) from_0, (ap (λ ps. find text 1 ps between) from_1, (ap (λ ps. find text 3 ps between) from_3, (ap (λ ps. find text 5 ps between) from_5, (refl, refl)))))

nothing_more : first_token text 6 ≡ Ok last
nothing_more = ap (λ ps. find text 6 ps between) from_6

-- Its declaration

abbrev spelled : List Lexeme
spelled =
    record { word = words.Name; bytes = codes "d"; at = place 1 } ∷ record { word = words.Equals; bytes = codes "="; at = place 3 } ∷ record { word = words.Name; bytes = codes "c"; at = place 5 } ∷ record { word = words.Dot; bytes = codes "."; at = place 6 } ∷ []

abbrev c_text : Term
c_text = identifier (codes "c") (place 5)

abbrev d_is_c : Declaration
d_is_c = define (Some (codes "d")) None c_text false

no_keyword : words.Name ≡ words.Keyword → ⊥
no_keyword e = cc

reads_c : ReadsOnce (atom c_text ∷ []) c_text
reads_c = once (λ x. None) (atom c_text ∷ []) (record { term = c_text; level = levels.Application }) tt refl

-- It is written in one way

abbrev entries : List Entry
entries = c_entry ∷ o_entry ∷ []

abbrev o_type : LfType
o_type = lf_atom 0 nil

abbrev c_term : LfTerm
c_term = root (constant 1) nil

abbrev written_c : Written
written_c = forms.declared 1 (record { line = 1; column = 5 })

abbrev written : WrittenBody
written = written_definition written_c false

abbrev body : Body
body = declare_definition c_term o_type false

not_free : (x : List ℕ) → IsFreeVariable entries x d_is_c → ⊥
not_free x (inl h) = h
not_free x (inr (same, upper, named)) = none_is_not_some named refl

skeletons : HasSkeletons entries d_is_c [] []
skeletons = record {
  row_is_free = λ x h. absurd h;
  free_has_row = λ x h. absurd (not_free x h);
  distinct = tt;
  fits = (base 0, refl);
  only = λ f p h. record { frees = λ x i. absurd (not_free x i); omitted = (parts_of (base 0) h.0 p [] h.1).1 };
}

makes_none : (rows : Rows) (o : List Skeleton) (w : WrittenBody) → resolved_body entries rows o d_is_c ≡ Some w → total (body_spots entries w) ≡ zero
makes_none rows [] w r = subst (λ x. total (body_spots entries x) ≡ zero) (some_is r) refl
makes_none rows (s ∷ o) w r = absurd (none_is_not_some refl r)

-- The constant is found in the signature

not_definition : (e : Entry) (N : LfTerm) (B : LfType) (b : Bool) → entry entries 1 ≡ Some e → e.body ≡ declare_definition N B b → ⊥
not_definition e N B b q k = let clash : declare_constant o_type ≡ declare_definition N B b = ap (λ x. x.body) (some_is q) ∙ k in cc

type_is : (e : Entry) (B : LfType) → entry entries 1 ≡ Some e → e.body ≡ declare_constant B → B ≡ o_type
type_is e B q k = let same : declare_constant o_type ≡ declare_constant B = ap (λ x. x.body) (some_is q) ∙ k in cc

none_implicit : (e : Entry) → entry entries 1 ≡ Some e → e.implicit ≡ zero
none_implicit e q = sym (ap (λ x. x.implicit) (some_is q))

expanded : (A : LfType) (S : Spine) → S ≡ nil → A ≡ o_type → eta_expand (skeleton A) (constant 1) S ≡ c_term
expanded A S n a = ap₂ (λ X T. eta_expand (skeleton X) (constant 1) T) a n

body_is : (R : LfTerm) (A : LfType) (b : Bool) → false ≡ b → R ≡ c_term → A ≡ o_type → declare_definition R A b ≡ body
body_is R A b e r a = ap (declare_definition R A) (sym e) ∙ ap₂ (λ X Y. declare_definition X Y false) r a

-- It has a completion

abbrev it : Completion
it = record { quantifiers = []; frees = []; body = body }

completion : IsCompletion entries [] written it
completion = record { context = tt; frees_typed = tt; completed = (refl, constant_completed {e = c_entry} {B = o_type} refl refl any_none) }

takes_nothing : {F : List LfType} {k : ℕ} {D : List LfType} {A B : LfType} {S : Spine} → TakesAny entries F k D B S A → k ≡ zero → (S ≡ nil) × (A ≡ B)
takes_nothing any_none e = (refl, refl)
takes_nothing (any_next m t) e = absurd cc

completes_c : {frees : List FreeValue} {N : LfTerm} {A : LfType} → Completes entries [] frees [] written_c N A → (N ≡ c_term) × (A ≡ o_type)
completes_c (constant_completed {e = e} {B = B} {A = A} {S = S} q k t) =
    let (n, a) = takes_nothing t (none_implicit e q) in
    let same : A ≡ o_type = a ∙ type_is e B q k in
    (expanded A S n same, same)
completes_c (definition_completed {e = e} {N = N} {B = B} {b = b} q k t) = absurd (not_definition e N B b q k)

body_completed : (frees : List FreeValue) (b : Body) → CompletesBody entries [] frees written b → b ≡ body
body_completed frees (declare_definition N A b) (e, x) = let (n, a) = completes_c x in body_is N A b e n a
body_completed frees (declare_family K) x = absurd x
body_completed frees (declare_constant A) x = absurd x

-- Nothing is made of it, and nothing is deep

makes_nothing : {k : ℕ} {D : List LfType} {A B : LfType} {s s' : State} {S : Spine} → TakesNew k D B s s' S A → k ≡ zero → (s' ≡ s) × (S ≡ nil) × (A ≡ B)
makes_nothing takes_none e = (refl, refl, refl)
makes_nothing (takes_next t) e = absurd cc

infers_c : {frees : List ℕ} {s s' : State} {R : LfTerm} {A : LfType} → Infers entries frees [] written_c s s' R A → (s' ≡ s) × (R ≡ c_term) × (A ≡ o_type)
infers_c (at_constant {e = e} {B = B} {A = A} {S = S} q k t) =
    let (p, n, a) = makes_nothing t (none_implicit e q) in
    let same : A ≡ o_type = a ∙ type_is e B q k in
    (p, expanded A S n same, same)
infers_c (at_definition {e = e} {N = N} {B = B} {b = b} q k t) = absurd (not_definition e N B b q k)

body_made : (frees : List ℕ) (s s' : State) (b : Body) → ElaboratesBody entries frees written s s' b → (s' ≡ s) × (b ≡ body)
body_made frees s s' (declare_definition R A b) (e, x) = let (p, r, a) = infers_c x in (p, body_is R A b e r a)
body_made frees s s' (declare_family K) x = absurd x
body_made frees s s' (declare_constant A) x = absurd x

no_substitution : {frees : List ℕ} {s : State} → InfersDeep entries frees [] written_c s → ⊥
no_substitution (deep_definition {e = e} {N = N} {B = B} {b = b} q k t deep) = not_definition e N B b q k
no_substitution (deep_implicit {e = e} q k t) = none_deep t (none_implicit e q)
no_substitution (deep_defined_implicit {e = e} q k t) = none_deep t (none_implicit e q)

no_elaboration : {frees : List ℕ} {s : State} → BodyDeep entries frees written s → ⊥
no_elaboration (deep_definition_body x) = no_substitution x

nothing_elaborated : FromNothingDeep entries [] written → ⊥
nothing_elaborated (deep_frees t) = no_frees_deep t refl
nothing_elaborated (deep_behind_frees f d) = no_elaboration d

put_nil : {Ψ : ℕ → Option LfType} {bs : List Binding} {k : ℕ} {S : Spine} → PutsInSpine Ψ bs k nil S → S ≡ nil
put_nil put_nowhere = refl

put_c : {Ψ : ℕ → Option LfType} {bs : List Binding} {k : ℕ} {M : LfTerm} → PutsIn Ψ bs k c_term M → M ≡ c_term
put_c (put_at_rigid h r x) = ap (root (constant 1)) (put_nil x)

put_o : {Ψ : ℕ → Option LfType} {bs : List Binding} {k : ℕ} {A : LfType} → PutsInType Ψ bs k o_type A → A ≡ o_type
put_o (put_in_atom x) = ap (lf_atom 0) (put_nil x)

-- neither the constant nor its type is deep, and `type` isn't
c_shallow : (M : LfTerm) → M ≡ c_term → depth_limit < depth M → ⊥
c_shallow M e l = let deep : depth_limit < depth c_term = subst (λ X. depth_limit < depth X) e l in omega (arith, deep)

o_shallow : (A : LfType) → A ≡ o_type → depth_limit < type_depth A → ⊥
o_shallow A e l = let deep : depth_limit < type_depth o_type = subst (λ X. depth_limit < type_depth X) e l in omega (arith, deep)

star_shallow : (K : Kind) → lf_star ≡ K → depth_limit < kind_depth K → ⊥
star_shallow K e l = let deep : depth_limit < kind_depth lf_star = subst (λ X. depth_limit < kind_depth X) (sym e) l in omega (arith, deep)

read_shallow : (after : metas.State) → BodyIsDeep after body → ⊥
read_shallow after (inl (M, p, l)) = c_shallow M (put_c p) l
read_shallow after (inr (A, p, l)) = o_shallow A (put_o p) l

text_shallow : depth_limit < declared_depth entries d_is_c → ⊥
text_shallow l = let deep : depth_limit < 1 = l in omega (arith, deep)

body_shallow : BodyReachesDeep (signature_of entries) body → ⊥
body_shallow (inl (inl l)) = o_shallow o_type refl l
body_shallow (inl (inr (inl l))) = o_shallow o_type refl l
body_shallow (inl (inr (inr (K, k, l)))) = star_shallow K (some_is k) l
body_shallow (inr (inl l)) = c_shallow c_term refl l
body_shallow (inr (inr (inl l))) = c_shallow c_term refl l
body_shallow (inr (inr (inr (inl l)))) = o_shallow o_type refl l
body_shallow (inr (inr (inr (inr (A, a, l))))) = o_shallow A (sym (some_is a)) l

is_shallow : IsShallow entries written
is_shallow = record {
  elaboration = nothing_elaborated;
  equations = λ frees s b made deep. unmade_shallow entries frees made.with_frees s made.frees_made (body_made frees made.with_frees s b made.body_made).0 deep;
  body = λ frees s b after made z deep. read_shallow after (subst (BodyIsDeep after) (body_made frees made.with_frees s b made.body_made).1 deep);
  completion = λ frees b p deep. body_shallow (subst (BodyReachesDeep (signature_of entries)) (body_completed frees b p.completion.completed) deep);
}

completable : IsCompletable with_constant d_is_c
completable = record {
  completed = record {
    rows = [];
    are_rows = record { row_is_free = λ x h. absurd h; free_has_row = λ x h. absurd (not_free x h); distinct = tt };
    omitted = [];
    written = written;
    resolved = refl;
    completion = it;
    completes = completion;
  };
  not_loose = not_twice entries d_is_c [] [] skeletons;
  none_left = λ left h. no_equation entries d_is_c not_free makes_none left h;
  shallow = nothing_deep entries d_is_c not_free makes_none skeletons written refl text_shallow is_shallow;
}

definition_good : IsGood with_constant text
definition_good =
    record {
      words = spelled;
      end = place 7;
      next = last;
      written = record { upto = 6; written = record { tokens = tokens; through = through; few = lit≤ tt; spelled = refl; behind = refl }; follower = nothing_more };
      alone = refl;
      declaration = d_is_c;
      reads = record {
        begins = (λ e. absurd (no_keyword e), refl);
        reads = (define (Some (codes "d")) None (outline (place 5) (more none (leaf c_text))) false, defines (a_definition refl) refl (plain (one_more empty (a_name refl (get-empty name_order (codes "c"))))) refl, defined (means (one_item no_items a_leaf) reads_c));
      };
      good = inr completable;
    }

sound : IsSound with_constant
sound = (
  (
    (tt, record { typed = tt; within = lit≤ tt; implicit_lead = lit≤ tt; hint_each = refl }),
    record { typed = (lf_star, refl, tt); within = lit≤ tt; implicit_lead = lit≤ tt; hint_each = refl },
  ),
  record { typed = λ B m. absurd m; listed = λ r m. absurd m },
)

pub good : DefinitionIsGood
good = (sound, definition_good)
