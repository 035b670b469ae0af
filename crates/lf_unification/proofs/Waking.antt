-- An equation that is left over stays left over while nothing that is reached from it is bound. So only those of which something was bound
-- have to be looked at again.
use Rattle.std.proofs.Common.{◌≡◌, ℕ, List, [], ◌∷◌, ◌<◌, Option, Some, ◌⊎◌, inl, inr, refl, sym, ap, ◌∙◌, subst}
use Rattle.lf.specs.Subordination.{Member}
use Rattle.lf.specs.Rules.{Reduces}
use Rattle.lf.specs.Syntax.{LfType, Spine, Term, app, atom, constant, lambda, metavariable, nil, pi, rename, root, variable}
use Rattle.lf_unification.specs.Inversion.{Allowed, ElementAt, IsPattern}
use Rattle.lf_unification.specs.Lists.{followed}
use Rattle.lf_unification.specs.OpenTyping.{Declares, MetavariablesIn, MetavariablesInSpine, MetavariablesInType, skeletons_of}
use Rattle.lf_unification.specs.Offering.{pi_over}
use Rattle.lf_unification.specs.Outside.{IsStuck, NoStep, Outside, ValuesIn}
use Rattle.lf_unification.specs.Patterns.{beyond, pattern, pattern_renaming}
use Rattle.lf_unification.specs.Pruning.{CanDrop, PrunedType}
use Rattle.lf_unification.specs.Putting.{PutsIn, PutsInSpine, Unbound, put_at_bound, put_at_rigid, put_at_unbound, put_in_argument, put_nowhere, put_under_lambda}
use Rattle.lf_unification.specs.Reach.{IsInside, IsReached, Mentions, SpineMentions, TypeMentions, in_term, in_type, in_value, inside_value, is_given}
use Rattle.lf_unification.specs.Rigid.{Rigid, RigidInSpine, first, here, in_constant, in_lambda, in_variable, later, past_binders}
use Rattle.lf_unification.specs.Laws.{LeftOverStays}
use Rattle.lf_unification.specs.Scope.{MetavariablesInBindings, MetavariablesInEquations}
use Rattle.lf_unification.specs.Skeletons.{skeleton_or_default}
use Rattle.lf_unification.specs.Solving.{LeftOver}
use Rattle.lf_unification.specs.Unifiers.{Binding, Equation}
use Rattle.lf.proofs.Rules.{rules_agree_reduction}
use Rattle.lf_unification.proofs.Putting.{put_some, put_some_spine, some_within, some_within_spine}
use Rattle.lf_unification.proofs.Reach.{mentioned_type, reached_within}
use Rattle.lf_unification.proofs.Scope.{in_reduced, in_rename, in_weaker}

-- what holds of each metavariable that a term mentions
mutual
  in_mentioned : (V : ℕ → Type 0) (M : Term) → ((k : ℕ) → Mentions k M → V k) → MetavariablesIn V M
  in_mentioned V (lambda M) h = in_mentioned V M h
  in_mentioned V (root (constant c) S) h = in_mentioned_spine V S h
  in_mentioned V (root (variable i) S) h = in_mentioned_spine V S h
  in_mentioned V (root (metavariable m) S) h = (h m (inl refl), in_mentioned_spine V S (λ k o. h k (inr o)))

  in_mentioned_spine : (V : ℕ → Type 0) (S : Spine) → ((k : ℕ) → SpineMentions k S → V k) → MetavariablesInSpine V S
  in_mentioned_spine V nil h = tt
  in_mentioned_spine V (app M S) h = (in_mentioned V M (λ k o. h k (inl o)), in_mentioned_spine V S (λ k o. h k (inr o)))

in_mentioned_type : (V : ℕ → Type 0) (A : LfType) → ((k : ℕ) → TypeMentions k A → V k) → MetavariablesInType V A
in_mentioned_type V (pi A B) h = (in_mentioned_type V A (λ k o. h k (inl o)), in_mentioned_type V B (λ k o. h k (inr o)))
in_mentioned_type V (atom a S) h = in_mentioned_spine V S h

-- what stands rigid in a term is mentioned by it
mutual
  rigid_mentions : {N M : Term} {k : ℕ} → Rigid N k M → (m : ℕ) → Mentions m N → Mentions m M
  rigid_mentions here m h = h
  rigid_mentions (in_lambda o) m h = rigid_mentions o m h
  rigid_mentions (in_constant o) m h = rigid_mentions_spine o m h
  rigid_mentions (in_variable o) m h = rigid_mentions_spine o m h

  rigid_mentions_spine : {N : Term} {S : Spine} {k : ℕ} → RigidInSpine N k S → (m : ℕ) → Mentions m N → SpineMentions m S
  rigid_mentions_spine (first o) m h = inl (rigid_mentions o m h)
  rigid_mentions_spine (later o) m h = inr (rigid_mentions_spine o m h)

both_unbound : (new bs : List Binding) (m : ℕ) → Unbound new m → Unbound bs m → Unbound (followed new bs) m
both_unbound [] bs m u v = v
both_unbound (b ∷ new) bs m (n, u) v = (n, both_unbound new bs m u v)

old_unbound : (new bs : List Binding) (m : ℕ) → Unbound (followed new bs) m → Unbound bs m
old_unbound [] bs m u = u
old_unbound (b ∷ new) bs m (n, u) = old_unbound new bs m u

old_member : (new bs : List Binding) (b : Binding) → Member b bs → Member b (followed new bs)
old_member [] bs b i = i
old_member (c ∷ new) bs b i = inr (old_member new bs b i)

one_of : (new bs : List Binding) (b : Binding) → Member b (followed new bs) → Member b new ⊎ Member b bs
one_of [] bs b i = inr i
one_of (c ∷ new) bs b (inl e) = inl (inl e)
one_of (c ∷ new) bs b (inr i) = go (one_of new bs b i)
  where
    go : Member b new ⊎ Member b bs → Member b (c ∷ new) ⊎ Member b bs
    go (inl j) = inl (inr j)
    go (inr j) = inr j

member_bound : (new : List Binding) (b : Binding) → Member b new → Unbound new b.of → ⊥
member_bound [] b i u = i
member_bound (c ∷ new) b (inl e) u = u.0 (ap (λ x. x.of) e)
member_bound (c ∷ new) b (inr i) u = member_bound new b i u.1

module _ (Ψ Ψ' : ℕ → Option LfType) (bs new : List Binding) (grows : (m : ℕ) (A : LfType) → Ψ m ≡ Some A → Ψ' m ≡ Some A) where
  abbrev bs' : List Binding
  bs' = followed new bs

  -- what is reached before is reached now
  reach_more : {N : Term} {k : ℕ} → IsReached Ψ bs N k → IsReached Ψ' bs' N k
  reach_more (in_term h) = in_term h
  reach_more (in_type {k = k} {A = A} r e h) = in_type (reach_more r) (grows k A e) h
  reach_more (in_value b r i h) = in_value b (reach_more r) (old_member new bs b i) h

  same_skeleton : (m : ℕ) → Declares Ψ m → skeletons_of Ψ' m ≡ skeletons_of Ψ m
  same_skeleton m (A, e) = ap skeleton_or_default (grows m A e ∙ sym e)

  same_type : (m : ℕ) → Declares Ψ m → (A : LfType) → Ψ' m ≡ Some A → Ψ m ≡ Some A
  same_type m (B, e) A f = e ∙ sym (grows m B e) ∙ f

  same_pruned : (n d : ℕ) → Declares Ψ n → PrunedType Ψ' n d → PrunedType Ψ n d
  same_pruned n d h p = record {
    local = p.local;
    family = p.family;
    indices = p.indices;
    declared = same_type n h (pi_over p.local (atom p.family p.indices)) p.declared;
    kept_local = p.kept_local;
    kept_indices = p.kept_indices;
    kept = p.kept;
    distinct = p.distinct;
    places = p.places;
    part = p.part;
    same_target = p.same_target;
    others_stay = p.others_stay;
    is_lost = p.is_lost;
  }

  -- nothing that is reached from N was bound since
  module _ (N : Term) (old : (k : ℕ) → IsReached Ψ bs N k → Declares Ψ k × Unbound new k) where
    reach_back : {k : ℕ} → IsReached Ψ' bs' N k → IsReached Ψ bs N k
    reach_back (in_term h) = in_term h
    reach_back (in_type {k = k} {A = A} r e h) = let q = reach_back r in in_type q (same_type k (old k q).0 A e) h
    reach_back (in_value b r i h) = go (reach_back r) (one_of new bs b i) h
      where
        go : {m : ℕ} → IsReached Ψ bs N b.of → Member b new ⊎ Member b bs → Mentions m b.value → IsReached Ψ bs N m
        go q (inl j) h = absurd (member_bound new b j (old b.of q).1)
        go q (inr j) h = in_value b q j h

    rigid_declared : (m k : ℕ) (S : Spine) → Rigid (root (metavariable m) S) k N → Declares Ψ m
    rigid_declared m k S o = (old m (in_term (rigid_mentions o m (inl refl)))).0

    no_step_stays : (D : List LfType) (m : ℕ) (xs : List ℕ) → Declares Ψ m → NoStep Ψ bs D m xs N → NoStep Ψ' bs' D m xs N
    no_step_stays D m xs declared w = record {
      circular = λ i. reach_more (w.circular (record { inversion = i.inversion; is = subst (λ t. rename (pattern_renaming t xs (beyond D)) i.inversion ≡ N) same i.is }));
      invertible = λ n. w.invertible (record { depth = n.depth; bad = n.bad; spine = n.spine; at = n.at; is_bad = subst (λ t. Allowed D t xs n.depth n.bad → ⊥) same n.is_bad });
      not_inside = λ o. w.not_inside (record {
        depth = o.depth;
        context = o.context;
        context_is = o.context_is;
        ys = o.ys;
        is_pattern = subst (λ t. IsPattern o.context t o.ys) same o.is_pattern;
        at = subst (λ t. Rigid (root (metavariable m) (pattern t o.ys)) o.depth N) same o.at;
        inside = subst (λ t. N ≡ root (metavariable m) (pattern t o.ys) → ⊥) same o.inside;
      });
      no_drop = λ c. w.no_drop (dropped c);
      no_agreement = λ c. w.no_agreement (record {
        same = record { ys = c.same.ys; is_pattern = subst (λ t. IsPattern D t c.same.ys) same c.same.is_pattern; is = subst (λ t. N ≡ root (metavariable m) (pattern t c.same.ys)) same c.same.is };
        dropped = c.dropped;
        differ = subst (λ t. pattern_renaming t xs (beyond D) c.dropped ≡ pattern_renaming t c.same.ys (beyond D) c.dropped → ⊥) same c.differ;
        pruned = same_pruned m c.dropped declared c.pruned;
      });
      renewed = λ k A r u e.
          let q : IsReached Ψ bs N k = reach_back r in
          let f : Ψ k ≡ Some A = same_type k (old k q).0 A e in
          in_mentioned_type (Unbound bs') A (λ j h. both_unbound new bs j (old j (in_type q f h)).1 (mentioned_unbound A (w.renewed k A q (old_unbound new bs k u) f) j h));
    }
      where
        same : skeletons_of Ψ' m ≡ skeletons_of Ψ m
        same = same_skeleton m declared

        mentioned_unbound : (A : LfType) → MetavariablesInType (Unbound bs) A → (j : ℕ) → TypeMentions j A → Unbound bs j
        mentioned_unbound A i j h = mentioned_type (Unbound bs) j A i h

        dropped : CanDrop Ψ' D (skeletons_of Ψ' m) xs N → CanDrop Ψ D (skeletons_of Ψ m) xs N
        dropped c =
            let n = c.drop.m in
            let d : Declares Ψ n = rigid_declared n c.drop.depth (pattern (skeletons_of Ψ' n) c.drop.ys) c.drop.at in
            let q : skeletons_of Ψ' n ≡ skeletons_of Ψ n = same_skeleton n d in
            record {
              drop = record {
                m = n;
                depth = c.drop.depth;
                context = c.drop.context;
                context_is = c.drop.context_is;
                ys = c.drop.ys;
                is_pattern = subst (λ t. IsPattern c.drop.context t c.drop.ys) q c.drop.is_pattern;
                at = subst (λ t. Rigid (root (metavariable n) (pattern t c.drop.ys)) c.drop.depth N) q c.drop.at;
                place = c.drop.place;
                bad = c.drop.bad;
                nth = c.drop.nth;
                is_bad = subst (λ t. Allowed D t xs c.drop.depth c.drop.bad → ⊥) same c.drop.is_bad;
                last = subst (λ t. (j y : ℕ) → (c.drop.place < j) → ElementAt c.drop.ys j y → Allowed D t xs c.drop.depth y) same c.drop.last;
              };
              dropped = c.dropped;
              is_place = subst (λ t. pattern_renaming t c.drop.ys (λ j. past_binders c.drop.depth (beyond D j)) c.dropped ≡ c.drop.bad) q c.is_place;
              pruned = same_pruned n c.dropped d c.pruned;
            }

  stuck_stays : (D : List LfType) (M N : Term) → ((m : ℕ) → Mentions m M → Declares Ψ m) → ((k : ℕ) → IsReached Ψ bs N k → Declares Ψ k × Unbound new k) → IsStuck Ψ bs D M N → IsStuck Ψ' bs' D M N
  stuck_stays D M N left old stuck m xs p e =
      let d : Declares Ψ m = left m (subst (Mentions m) (sym e) (inl refl)) in
      let q : skeletons_of Ψ' m ≡ skeletons_of Ψ m = same_skeleton m d in
      no_step_stays N old D m xs d (stuck m xs (subst (λ t. IsPattern D t xs) q p) (subst (λ t. M ≡ root (metavariable m) (pattern t xs)) q e))

  pub outside_stays : (e : Equation) → ((k : ℕ) → IsReached Ψ bs e.left k → Declares Ψ k × Unbound new k) → ((k : ℕ) → IsReached Ψ bs e.right k → Declares Ψ k × Unbound new k) → Outside Ψ bs e → Outside Ψ' bs' e
  outside_stays e l r o = record {
    differ = o.differ;
    left_root = o.left_root;
    right_root = o.right_root;
    flexible = o.flexible;
    stuck_left = stuck_stays e.local e.left e.right (λ m h. (l m (in_term h)).0) r o.stuck_left;
    stuck_right = stuck_stays e.local e.right e.left (λ m h. (r m (in_term h)).0) l o.stuck_right;
  }

  -- The same of an equation with the bindings to be put in: nothing that is reached from the side N was bound since.
  module _ (N : Term) (old : (k : ℕ) → IsReached Ψ bs N k → Declares Ψ k × Unbound new k) where
    values_reached : (b : Binding) → Member b bs → IsReached Ψ bs N b.of → MetavariablesIn (IsReached Ψ bs N) b.value
    values_reached b i r = in_mentioned (IsReached Ψ bs N) b.value (λ k h. in_value b r i h)

    mutual
      puts_same : {k : ℕ} {M M' : Term} → PutsIn Ψ bs k M M' → MetavariablesIn (IsReached Ψ bs N) M → PutsIn Ψ' bs' k M M'
      puts_same (put_under_lambda d) i = put_under_lambda (puts_same d i)
      puts_same (put_at_rigid (constant c) r d) i = put_at_rigid (constant c) r (puts_same_spine d i)
      puts_same (put_at_rigid (variable j) r d) i = put_at_rigid (variable j) r (puts_same_spine d i)
      puts_same (put_at_rigid (metavariable m) r d) i = absurd r
      puts_same (put_at_unbound {m = m} u d) (w, i) = put_at_unbound (both_unbound new bs m (old m w).1 u) (puts_same_spine d i)
      puts_same {k = k} (put_at_bound {S' = S'} {R = R} b j d r e) (w, i) =
          let V : ℕ → Type 0 = IsReached Ψ bs N in
          let within : MetavariablesIn V R = subst (MetavariablesIn V) (sym (rules_agree_reduction r)) (in_reduced V (skeletons_of Ψ b.of) (rename (past_binders k) b.value) S' (in_rename V (past_binders k) b.value (values_reached b j w)) (some_within_spine (put_some_spine d) V values_reached i)) in
          put_at_bound b (old_member new bs b j) (puts_same_spine d i) (subst (λ a. Reduces a (rename (past_binders k) b.value) S' R) (sym (same_skeleton b.of (old b.of w).0)) r) (puts_same e within)

      puts_same_spine : {k : ℕ} {S S' : Spine} → PutsInSpine Ψ bs k S S' → MetavariablesInSpine (IsReached Ψ bs N) S → PutsInSpine Ψ' bs' k S S'
      puts_same_spine put_nowhere i = put_nowhere
      puts_same_spine (put_in_argument d e) (i, j) = put_in_argument (puts_same d i) (puts_same_spine e j)

    itself : MetavariablesIn (IsReached Ψ bs N) N
    itself = in_mentioned (IsReached Ψ bs N) N (λ k h. in_term h)

    side_stays : {k : ℕ} {M : Term} → PutsIn Ψ bs k N M → PutsIn Ψ' bs' k N M
    side_stays d = puts_same d itself

    -- what is reached from the side with the bindings put in is reached from it
    put_reached : {k : ℕ} {M : Term} → PutsIn Ψ bs k N M → {m : ℕ} → IsReached Ψ bs M m → IsReached Ψ bs N m
    put_reached {M = M} d = reached_within Ψ bs M (IsReached Ψ bs N) (λ k A r e. in_mentioned_type (IsReached Ψ bs N) A (λ j h. in_type r e h)) (all_values bs (λ b i. values_reached b i)) (some_within (put_some d) (IsReached Ψ bs N) values_reached itself)
      where
        all_values : (cs : List Binding) → ((b : Binding) → Member b cs → IsReached Ψ bs N b.of → MetavariablesIn (IsReached Ψ bs N) b.value) → ValuesIn (IsReached Ψ bs N) cs
        all_values [] h = tt
        all_values (c ∷ cs) h = (h c (inl refl), all_values cs (λ b i. h b (inr i)))

inside_more : (given : ℕ → Type 0) (new bs : List Binding) {m : ℕ} → IsInside given bs m → IsInside given (followed new bs) m
inside_more given new bs (is_given g) = is_given g
inside_more given new bs (inside_value b i j o) = inside_value b (inside_more given new bs i) (old_member new bs b j) o

equation_in_scope : (V : ℕ → Type 0) (es : List Equation) → MetavariablesInEquations V es → (e : Equation) → Member e es → MetavariablesIn V e.left × MetavariablesIn V e.right
equation_in_scope V [] i e j = absurd j
equation_in_scope V (d ∷ es) (x, y, i) e (inl q) = (subst (λ (z : Equation). MetavariablesIn V z.left) (sym q) x, subst (λ (z : Equation). MetavariablesIn V z.right) (sym q) y)
equation_in_scope V (d ∷ es) (x, y, i) e (inr j) = equation_in_scope V es i e j

-- THE theorem
pub left_over_stays : LeftOverStays
left_over_stays given s s' new n grows bound scoped e member free l = subst (λ bs. LeftOver given (record { metavariables = s'.metavariables; bindings = bs; equations = s'.equations }) e) (sym bound) stays
  where
    declared : (N : Term) → MetavariablesIn (Declares s.metavariables) N → (k : ℕ) → IsReached s.metavariables s.bindings N k → Declares s.metavariables k
    declared N i k r = reached_within s.metavariables s.bindings N (Declares s.metavariables) (λ j A d f. scoped.types j A f) (values s.bindings scoped.bindings) i r
      where
        values : (bs : List Binding) → MetavariablesInBindings (Declares s.metavariables) bs → ValuesIn (Declares s.metavariables) bs
        values [] i = tt
        values (b ∷ bs) (x, i, j) = ((λ d. i), values bs j)

    old_left : (k : ℕ) → IsReached s.metavariables s.bindings e.left k → Declares s.metavariables k × Unbound new k
    old_left k r = (declared e.left (equation_in_scope (Declares s.metavariables) s.equations scoped.equations e member).0 k r, free k (inl r))

    old_right : (k : ℕ) → IsReached s.metavariables s.bindings e.right k → Declares s.metavariables k × Unbound new k
    old_right k r = (declared e.right (equation_in_scope (Declares s.metavariables) s.equations scoped.equations e member).1 k r, free k (inr r))

    stays : LeftOver given (record { metavariables = s'.metavariables; bindings = followed new s.bindings; equations = s'.equations }) e
    stays = record {
      shown = l.shown;
      same_local = l.same_local;
      put_left = side_stays s.metavariables s'.metavariables s.bindings new grows e.left old_left l.put_left;
      put_right = side_stays s.metavariables s'.metavariables s.bindings new grows e.right old_right l.put_right;
      inside_left = in_weaker (IsInside (Declares given) s.bindings) (IsInside (Declares given) (followed new s.bindings)) (λ m i. inside_more (Declares given) new s.bindings i) l.shown.left l.inside_left;
      inside_right = in_weaker (IsInside (Declares given) s.bindings) (IsInside (Declares given) (followed new s.bindings)) (λ m i. inside_more (Declares given) new s.bindings i) l.shown.right l.inside_right;
      outside = outside_stays s.metavariables s'.metavariables s.bindings new grows l.shown
          (λ k r. old_left k (put_reached s.metavariables s'.metavariables s.bindings new grows e.left old_left l.put_left r))
          (λ k r. old_right k (put_reached s.metavariables s'.metavariables s.bindings new grows e.right old_right l.put_right r)) l.outside;
    }
