-- Laws of what is looked at.
use Rattle.std.proofs.Common.{◌≡◌, ◌≢◌, ℕ, ◌<◌, ◌≤◌, List, [], ◌∷◌, ◌++◌, length, refl, sym, ap, ◌∙◌, arith, subst, None, Some, append-nil, append_assoc, length-append, Bool, true, false}
use Rattle.std.specs.declared.option.Option.{Option}
use Rattle.std.specs.Prelude.{nat_lt}
use Rattle.std.specs.Bool.{MatchBool}
use Rattle.std.proofs.KnownBytes.{Consumes-nil, Consumes-trans}
use borrow.Author.Tests.{ltb-true, ltb-false}
use Rattle.tw_lexer.specs.Cut.{cut_after, is_done, open_count}
use Rattle.tw_lexer.specs.declared.cut.Cut.{Cut}
use Rattle.tw_lexer.specs.declared.cut.Cut.TheVariants.{Plain}
use Rattle.tw_lexer.proofs.Cuts.{cut_after-append, cut_after-open, feed_not_done}
use Rattle.tw_server.specs.Lines.{HasNoFeed, IsOpen, is_over}
use Rattle.tw_server.specs.Feed.{Pending, Sees}
use Rattle.tw_server.specs.declared.text.Lost.TheVariants as losts
use Rattle.std.specs.Prelude.{◌⊎◌}
use Rattle.std.proofs.Common.{inl, inr}
use Rattle.tw_server.specs.declared.text.Lost.{Lost}
use Rattle.tw_server.specs.Gather.{IsKept, IsPushed, IsGathered, TextSoFar}

pub Sees-nil : (a : Pending) (left : Option (List ℕ)) → Sees a left a left []
Sees-nil a left = record { first = Consumes-nil _; counted = omega arith }

pub Sees-trans : {a b c : Pending} {la lb lc : Option (List ℕ)} {xs ys : List ℕ} → Sees a la b lb xs → Sees b lb c lc ys → Sees a la c lc (xs ++ ys)
Sees-trans {xs = xs} {ys = ys} p q = record {
  first = Consumes-trans _ _ _ _ _ p.first q.first;
  counted = omega (arith, length-append xs ys);
}

pub Sees-same : {a b : Pending} {la lb : Option (List ℕ)} {xs ys : List ℕ} → Sees a la b lb xs → xs ≡ ys → Sees a la b lb ys
Sees-same {a = a} {b = b} {la = la} {lb = lb} s e = subst (Sees a la b lb) e s

-- the list grows at its end
pub NoFeed-more : (xs : List ℕ) (b : ℕ) → HasNoFeed xs → b ≢ 10 → HasNoFeed (xs ++ b ∷ [])
NoFeed-more [] b h n = (n, tt)
NoFeed-more (x ∷ xs) b h n = (h.0, NoFeed-more xs b h.1 n)

kept_test : (xs body : List ℕ) (b : ℕ) (new : Option (List ℕ)) (t : Bool) → nat_lt (length xs) 65536 ≡ t → xs ≡ body → MatchBool t (new ≡ Some (xs ++ b ∷ [])) (new ≡ None) → IsKept new (body ++ b ∷ [])
kept_test xs body b new true e s p = subst (λ k. IsKept k (body ++ b ∷ [])) (sym p) (ap (λ (l : List ℕ). l ++ b ∷ []) s, few)
  where
    few : length (body ++ b ∷ []) ≤ 65536
    few = let h : length xs < 65536 = ltb-true _ _ e in omega (arith, length-append body (b ∷ []), ap length s)
kept_test xs body b new false e s p = subst (λ k. IsKept k (body ++ b ∷ [])) (sym p) many
  where
    many : 65536 < length (body ++ b ∷ [])
    many = let h : 65536 ≤ length xs = ltb-false _ _ e in omega (arith, length-append body (b ∷ []), ap length s)

pub kept_more : (kept new : Option (List ℕ)) (body : List ℕ) (b : ℕ) → IsKept kept body → IsPushed kept b new → IsKept new (body ++ b ∷ [])
kept_more None new body b h p = subst (λ k. IsKept k (body ++ b ∷ [])) (sym p) (let e = length-append body (b ∷ []) in omega arith)
kept_more (Some xs) new body b h p = kept_test xs body b new (nat_lt (length xs) 65536) refl h.0 p

-- a byte that is no line feed goes on with the line
pub open_more : (text body : List ℕ) (b : ℕ) → IsOpen text body → b ≢ 10 → IsOpen (text ++ b ∷ []) (body ++ b ∷ [])
open_more text body b h n = record {
  front = h.front;
  spelled = ap (λ (l : List ℕ). l ++ b ∷ []) h.spelled ∙ append_assoc h.front body (b ∷ []);
  lines = h.lines;
  plain = NoFeed-more body b h.plain n;
  before = h.before;
}

-- a line feed before the dot begins a new line
pub open_next : (text body : List ℕ) → is_over text ≡ false → IsOpen text body → IsOpen (text ++ 10 ∷ []) []
open_next text body e h = record {
  front = text ++ 10 ∷ [];
  spelled = sym (append-nil _);
  lines = inr (text, refl);
  plain = tt;
  before = ap is_done (cut_after-append Plain text (10 ∷ [])) ∙ feed_not_done (cut_after Plain text) e;
}

-- nothing of a text was read
pub text_begins : (a : Pending) (left : Option (List ℕ)) (lost : Lost) (kept : List ℕ) → lost ≡ losts.Nothing → kept ≡ [] → TextSoFar a left a left lost kept Plain
text_begins a left lost kept e k = record {
  text = [];
  body = [];
  open_yet = record { front = []; spelled = refl; lines = inl refl; plain = tt; before = refl };
  stands = refl;
  gathered = subst (λ (l : Lost). IsGathered l kept []) (sym e) (k, omega arith);
  sees = Sees-nil a left;
}

-- a text goes on by a byte
pub text_more : {a b c : Pending} {la lb lc : Option (List ℕ)} {lost lost' : Lost} {kept kept' : List ℕ} {cut cut' : Cut} (x : ℕ) → TextSoFar a la b lb lost kept cut
    → Sees b lb c lc (x ∷ []) → ((text : List ℕ) → IsGathered lost kept text → IsGathered lost' kept' (text ++ x ∷ [])) → cut' ≡ cut_after cut (x ∷ []) → ((x ≡ 10) × (is_done cut ≡ false)) ⊎ (x ≡ 10 → ⊥)
    → TextSoFar a la c lc lost' kept' cut'
text_more {cut = cut} x i s gather o (inl next) = record {
  text = i.text ++ x ∷ [];
  body = [];
  open_yet = subst (λ y. IsOpen (i.text ++ y ∷ []) []) (sym next.0) (open_next i.text i.body (ap is_done (sym i.stands) ∙ next.1) i.open_yet);
  stands = o ∙ ap (λ (t : Cut). cut_after t (x ∷ [])) i.stands ∙ sym (cut_after-append Plain i.text (x ∷ []));
  gathered = gather i.text i.gathered;
  sees = Sees-trans i.sees s;
}
text_more {cut = cut} x i s gather o (inr more) = record {
  text = i.text ++ x ∷ [];
  body = i.body ++ x ∷ [];
  open_yet = open_more i.text i.body x i.open_yet more;
  stands = o ∙ ap (λ (t : Cut). cut_after t (x ∷ [])) i.stands ∙ sym (cut_after-append Plain i.text (x ∷ []));
  gathered = gather i.text i.gathered;
  sees = Sees-trans i.sees s;
}

-- fewer comments are open in a text than bytes were looked at
pub text_open : {a b : Pending} {la lb : Option (List ℕ)} {lost : Lost} {kept : List ℕ} {cut : Cut} → TextSoFar a la b lb lost kept cut → open_count cut ≤ b.seen
text_open i = let o = cut_after-open Plain i.text in omega (arith, ap open_count i.stands, i.sees.counted)
