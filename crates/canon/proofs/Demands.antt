-- The promises of the public calls meet the customer's demands. Assumes nothing.
use mathlib.Core.Path.{◌≡◌, refl, sym, ◌∙◌, ap}
use mathlib.Core.Logic.{inl, inr}
use mathlib.Core.List.{List, [], ◌∷◌}
use Prim.Native.Nat.{ℕ}
use native.Mathlib.Omega.{arith}
use lib.IntN.{ℤ}
use lib.ListN.{length}
use Rattle.theory.specs.Lists.{columns}
use Rattle.theory.specs.Table.{entry}
use Rattle.theory.specs.Cases.{Handed, nothing, additions, stars, Answerable}
use Rattle.theory.proofs.Duality.{balance}
use Rattle.orders.specs.Refusals.{numbers, Rising, Among, gives, refuses, says}
use Rattle.orders.proofs.Refusals.{first_among, first_lowest, not_both}
use Rattle.handed.specs.Conditions.{table_more, canon_more, star_more}
use Rattle.handed.proofs.Basics.{additions_right, stars_right, table_rises, canon_rises, heads_rises, star_rises}
use Rattle.canon.specs.Answers.{Answer}
use Rattle.canon.specs.Promises.{head_lengths}
use Rattle.canon.specs.Demands.{Buffers, lengths, heads_tests_of, WellFormed, Route, tests, verdict_tests, numbers_of}
use Rattle.canon.specs.Demands.{Demand1, Answered, Demand2, Demand3, Numbered, Limited}
use Rattle.canon.proofs.Refusing.{past_first}
use Rattle.canon.proofs.Unique.{solved_once, routed_once, judges_once, column_heads_once}
use Rattle.canon.proofs.Theorems.{Result, routes, same_buffers, routed_refused, routed_due, routed_answers, routed_result, routed_otherwise}
use Rattle.canon.proofs.Theorems.{formed_sound, own_lengths, clear_formed, clear_leads, alone_clear, canon_clear, greatest_clear, verdict_clear}
use Rattle.canon.proofs.Theorems.{judged_refused, judged_due, judged_yes, yes_judged, no_judged, simplest_same, result_within}
use Rattle.canon.proofs.Ties.{same_head_buffers, heads_refused, heads_due}

module _ (n : ℕ) (t : List ℤ) where
  -- the numbers of each route's tests rise
  rises : (start : Handed) (b : Buffers) → Rising (numbers (tests n t start b))
  rises nothing b = table_rises n t (lengths b)
  rises (additions l) b = canon_rises n t l (length l ∷ lengths b)
  rises (stars s) b = star_rises n t s (length s ∷ lengths b)

  pub demand_1 : Demand1 n t
  demand_1 =
      record {
        routes = λ start b.
            record {
              once = λ r s b' c' p q.
                  let o = routed_once (routes n t start b b' r p) (routes n t start b c' s q) in
                  (o.answer, same_buffers b' c' o.same_adds o.same_stars o.same_heads);
              refused = λ k vs r b' d p.
                  let (says, kept) = routed_refused b b' (routes n t start b b' r p) k d.0 in (says ∙ ap (refuses k) (sym d.1), kept);
              only_due = λ k vs r b' p e. routed_due b b' (routes n t start b b' r p) k vs e;
            };
        verdict = λ given.
            record {
              once = λ v w m m' p q. (judges_once n t given p q, refl);
              refused = λ k vs v m d p. (judged_refused p k d.0 ∙ ap (refuses k) (sym d.1), refl);
              only_due = λ k vs v m p e. judged_due p k vs e;
            };
        heads = λ given b.
            record {
              once = λ r s b' c' p q.
                  let o = column_heads_once n t given b.heads b.rows b.counts p q in
                  (o.answer, same_head_buffers b' c' o.same_heads o.same_rows o.same_counts);
              refused = λ k vs r b' d p. let (says, kept) = heads_refused b b' p k d.0 in (says ∙ ap (refuses k) (sym d.1), kept);
              only_due = λ k vs r b' p e. heads_due b b' p k vs e;
            };
        routes_lowest = λ start b j k. first_lowest (tests n t start b) j k (rises start b);
        verdict_lowest = λ given j k. first_lowest (verdict_tests n t given) j k (canon_rises n t given (length given ∷ []));
        heads_lowest = λ given b j k.
            first_lowest (heads_tests_of n t given b) j k (heads_rises n t given (head_lengths given b.heads b.rows b.counts));
      }

  -- what a route that answers wrote, and that what was handed to it leads
  module _ (start : Handed) (b b' : Buffers) (r : Answer) (s : ℤ) (p : Route n t start b r b') (e : says r ≡ gives s) where
    result : Result n t b' s
    result = (routed_result b b' (routes n t start b b' r p) s e).1

    formed : WellFormed n t
    formed = clear_formed n t start b (routed_result b b' (routes n t start b b' r p) s e).0

    leads : Answerable n (entry t n) start
    leads = clear_leads n t start b (routed_result b b' (routes n t start b b' r p) s e).0

    answer : Answered n t b'
    answer =
        let sol = result.solution in
        record {
          wanted = record { adds_long = result.adds_long; stars_long = result.star_list.long; heads_long = result.heads_long };
          simplest = sol.additions;
          none_smaller = λ m c i hi. sol.additions.least m c (λ k hk. omega arith) i hi;
          star_list = result.star_list;
          first_stars = sol.stars;
        }

    -- the additions that were written are themselves a canon within the limit of additions handed in
    written_leads : Answerable n (entry t n) (additions b'.adds)
    written_leads = (
      result.adds_long,
      λ i hi. omega (arith, (result_within b' formed result).addition_most i hi),
      result.solution.additions.canon,
    )

  pub demand_2 : Demand2 n t
  demand_2 =
      record {
        answered = answer;
        canon_leads = λ l b b' r w f g p. routed_answers b b' p (canon_clear n t w b f l g);
        greatest_leads = λ s b b' r w f g p. routed_answers b b' p (greatest_clear n t w b f s g);
        same_answer = λ start other b b' c c' r q x y p e u g.
            let v = result start b b' r x p e in
            let w = result other c c' q y u g in
            let o =
            solved_once b'.adds c'.adds b'.stars c'.stars b'.heads c'.heads e g v.adds_long w.adds_long v.star_list
            w.star_list v.heads_long w.heads_long v.solution w.solution in
            (o.answer, same_buffers b' c' o.same_adds o.same_stars o.same_heads);
        only_these_lead = leads;
        others_refused = λ start b b' r none p. routed_otherwise b b' (routes n t start b b' r p) (λ s e. none (leads start b b' r s p e));
        too_large_refused = λ l b b' r w f long large p.
            routed_refused b b' p 4
            (past_first (formed_sound n t (length l ∷ lengths b) w (long, own_lengths n t b f)) (canon_more n t l) 4 (inl (large, refl)));
        no_canon_refused = λ l b b' r w f some long within none p.
            routed_refused b b' p 7
            (past_first (formed_sound n t (length l ∷ lengths b) w (long, own_lengths n t b f)) (canon_more n t l) 7
            (inr (additions_right (λ i hi. within i (omega (arith, long))), inr ((λ f. f some.0 some.1), inl (none, refl)))));
        wrong_stars_refused = λ s b b' r w f long wrong p.
            routed_refused b b' p 5
            (past_first (formed_sound n t (length s ∷ lengths b) w (long, own_lengths n t b f)) (star_more n t s) 5 (inl (wrong, refl)));
        not_greatest_refused = λ s b b' r w f some list wrong p.
            routed_refused b b' p 8
            (past_first (formed_sound n t (length s ∷ lengths b) w (list.long, own_lengths n t b f)) (star_more n t s) 8
            (inr (stars_right list, inr ((λ f. f some.0 some.1), inl (wrong, refl)))));
        yes_to_these = λ start b b' r s v p e j.
            yes_judged j (verdict_clear n t (formed start b b' r s p e) b'.adds (written_leads start b b' r s p e))
            (result start b b' r s p e).solution.additions;
        yes_only = λ start b b' r s given v p e j yes.
            let (simple, long) = judged_yes j yes in
            simplest_same b' given (result start b b' r s p e) long simple;
        no_to_others = λ start b b' r s given v p e g other j.
            no_judged j (verdict_clear n t (formed start b b' r s p e) given g)
            (λ simple. other (simplest_same b' given (result start b b' r s p e) g.0 simple));
      }

  pub demand_3 : Demand3 n t
  demand_3 =
      record {
        refused_if_none = λ b b' r w f p none.
            routed_refused b b' p 6 (past_first (formed_sound n t (lengths b) w (own_lengths n t b f)) (table_more n t) 6 (inl (none, refl)));
        none_if_refused = λ b b' r k vs w f p e σ tr.
            let (s, says) = routed_answers b b' p (alone_clear n t w b f (σ, tr)) in
            not_both s k vs (sym says ∙ e);
        answered_if_some = λ b b' r w f p some. routed_answers b b' p (alone_clear n t w b f some);
        some_if_answered = λ start b b' r s p e.
            (columns b'.stars, (result start b b' r s p e).solution.stars.of_maxima.transversal);
        heads = λ start b b' r s p e. (result start b b' r s p e).solution.heads;
        balance = λ start b b' r s p e.
            let sol = (result start b b' r s p e).solution in
            rw sol.is_sum (balance n (entry t n) sol.heads sol.stars.of_maxima);
      }

  pub numbered : Numbered n t
  numbered =
      record {
        routes = λ start b b' r k vs p e. known start b k (first_among (tests n t start b) k (routed_due b b' (routes n t start b b' r p) k vs e).0);
        verdict = λ given v k vs p e. first_among (verdict_tests n t given) k (judged_due p k vs e).0;
        heads = λ given b b' r k vs p e. first_among (heads_tests_of n t given b) k (heads_due b b' p k vs e).0;
      }
    where
      known : (start : Handed) (b : Buffers) (k : ℕ) → Among (numbers (tests n t start b)) k → Among (numbers_of start) k
      known nothing b k a = a
      known (additions l) b k a = a
      known (stars s) b k a = a

  pub limited : Limited n t
  limited = record { found = λ start b b' r s p e. result_within b' (formed start b b' r s p e) (result start b b' r s p e) }
