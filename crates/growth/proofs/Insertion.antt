-- The steps of an insertion, over functions of rows and columns: the tree begins at one row; a row joins it and the gaps take it in;
-- the tree rises; it joins the marked row of the column that became tight, or the way back begins there. Assumes nothing.
use mathlib.Core.Path.{◌≡◌, refl, sym, ◌∙◌, ap}
use mathlib.Core.Bool.{Bool, true, false}
use mathlib.Core.Logic.{◌≢◌, inl, inr}
use Prim.Native.Nat.{ℕ, suc, ◌+◌, ◌*◌, ◌≤◌, ◌<◌}
use native.Mathlib.Decide.{ℕ_discrete, dec_lt}
use native.Mathlib.Omega.{arith}
use lib.Dec.{T}
use lib.IntN.{ℤ, pos, ◌+ℤ◌}
use lib.Signed.{◌≤ℤ◌}
use Rattle.theory.specs.Limits.{row_limit, order_limit}
use Rattle.theory.specs.Table.{Present, WithinLimit}
use Rattle.theory.specs.Canon.{Transversal}
use Rattle.theory.proofs.Pigeonhole.{choose, choose_yes, choose_no}
use Rattle.theory.proofs.Signed.{plus, signed}
use Rattle.gaps.specs.Steps.{no_gap, Nearer, share, Narrowed}
use Rattle.growth.specs.Growing.{insertion_rise, Tight, Growing, WayBack}
use Rattle.growth.proofs.Growth.{by_flag, flag_set, flag_is, flag_clash, Tree, stuck, growth}
use Rattle.orders.proofs.Stores.{Put, after}
use Rattle.orders.proofs.Flags.{unset, unset_most, unset_fewer}

-- g is the gap of the unset column j, given by the row p: the least over the rows seen, or `no_gap` where they have no order
pub record GapOf (n : ℕ) (a : ℕ → ℕ → ℤ) (l : ℕ → ℕ) (h : ℕ → ℤ) (seen : ℕ → Bool) (j g p : ℕ) : Type 0 where
  pub most : g ≤ no_gap
  pub gives : g < no_gap → (p < n) × T (seen p) × Present (a p j) × (a p j +ℤ pos (l p + g) ≡ h j)
  pub least : (i : ℕ) → i < n → T (seen i) → Present (a i j) → (g < no_gap) × ((a i j +ℤ pos (l i + g)) ≤ℤ h j)

-- How high the additions are while row s is inserted, when none was above b before: rows outside the tree are where they were, and
-- those of the tree lie near row s, since each is tight with its giver in one column.
pub record Heights (n s b : ℕ) (l : ℕ → ℕ) (tree reached : ℕ → Bool) : Type 0 where
  pub outside : (i : ℕ) → i < n → tree i ≡ false → l i ≤ b
  pub inside : (i : ℕ) → i < n → T (tree i) → l i ≤ b + insertion_rise
  pub spread : ℕ
  pub above : (i : ℕ) → i < n → T (tree i) → l i ≤ l s + spread
  pub below : (i : ℕ) → i < n → T (tree i) → l s ≤ l i + spread
  pub fits : spread + 2 * order_limit * unset n reached ≤ 2 * order_limit * n

-- An insertion of row s under way: of the tree's rows the gaps have taken in those seen.
pub record Search (n : ℕ) (a : ℕ → ℕ → ℤ) (start : ℕ → ℕ) (s b : ℕ) (l : ℕ → ℕ) (h : ℕ → ℤ) (ρ κ : ℕ → ℕ)
    (seen tree reached : ℕ → Bool) (gap giver : ℕ → ℕ) : Type 0 where
  pub growing : Growing n a start s l h ρ κ
  pub grown : Tree n a s l h ρ tree reached giver
  pub gaps : (j : ℕ) → j < n → reached j ≡ false → GapOf n a l h seen j (gap j) (giver j)
  pub done : (j : ℕ) → j < n → reached j ≡ true → gap j ≡ no_gap
  pub heights : Heights n s b l tree reached

-- what does not change while rows are inserted
pub record Setting (n : ℕ) (a : ℕ → ℕ → ℤ) (start : ℕ → ℕ) (s b : ℕ) : Type 0 where
  pub small : n ≤ row_limit
  pub inserting : s < n
  pub limits : WithinLimit order_limit n a
  pub handed_in : (i : ℕ) → i < n → start i ≤ b

-- a flag that is set stays set, and the new one is set
pub put_kept : {f f' : ℕ → Bool} {k : ℕ} → Put f f' k true → (x : ℕ) → T (f x) → T (f' x)
put_kept p x t = after (λ y z. T z) p x (λ e. tt) (λ ne. t)

pub put_new : {f f' : ℕ → Bool} {k : ℕ} → Put f f' k true → T (f' k)
put_new p = flag_set p.at

-- where no other flag is set, the new one is alone
put_alone : {f f' : ℕ → Bool} {k : ℕ} → Put f f' k true → {n : ℕ} → ((x : ℕ) → x < n → f x ≡ false) → (x : ℕ) → x < n → T (f' x) → x ≡ k
put_alone {k = k} p empty x hx = after (λ y z. T z → y ≡ k) p x (λ e t. refl) (λ ne t. flag_clash t (empty x hx))

module _ {n : ℕ} {a : ℕ → ℕ → ℤ} {start : ℕ → ℕ} {s b : ℕ} {l : ℕ → ℕ} {h : ℕ → ℤ} {ρ κ : ℕ → ℕ} (c : Setting n a start s b) where
  -- ---- the start: row s alone, and no column reached
  module _ {seen tree reached : ℕ → Bool} {gap giver : ℕ → ℕ} (st : Growing n a start s l h ρ κ) (top : (i : ℕ) → i < n → l i ≤ b)
      (empty : (i : ℕ) → i < n → seen i ≡ false) (free : (j : ℕ) → j < n → reached j ≡ false) (wide : (j : ℕ) → j < n → gap j ≡ no_gap)
      (p : Put seen tree s true) where
    pub search_start : Search n a start s b l h ρ κ seen tree reached gap giver
    search_start =
        record {
          growing = st;
          grown = record {
            rank = λ i. 0;
            root = put_new p;
            early = λ i hi ti. omega (arith, put_alone p empty i hi ti);
            row = λ j hj r. flag_clash r (free j hj);
            column = λ j hj m ti. absurd (omega (arith, put_alone p empty (ρ j) m ti, (st.marking.row j hj m).0));
            gives = λ j hj r. flag_clash r (free j hj);
          };
          gaps = λ j hj r.
              record {
                most = omega (arith, wide j hj);
                gives = λ lt. absurd (omega (arith, wide j hj));
                least = λ i hi ti. flag_clash ti (empty i hi);
              };
          done = λ j hj r. wide j hj;
          heights = record {
            outside = λ i hi e. top i hi;
            inside = λ i hi ti. omega (arith, top i hi);
            spread = 0;
            above = λ i hi ti. omega (arith, ap l (put_alone p empty i hi ti));
            below = λ i hi ti. omega (arith, ap l (put_alone p empty i hi ti));
            fits = omega (arith, unset_most n reached);
          };
        }

  -- ---- one more row is taken into the gaps
  module _ {seen tree reached : ℕ → Bool} {gap giver gap' giver' : ℕ → ℕ} {row : ℕ} (w : Search n a start s b l h ρ κ seen tree reached gap giver)
      (hr : row < n) (p : Put seen tree row true)
      (ways : (j : ℕ) → j < n → reached j ≡ false → Nearer (a row j) (l row) (h j) row (gap j) (giver j) (gap' j) (giver' j))
      (kept : (j : ℕ) → j < n → reached j ≡ true → (gap' j ≡ gap j) × (giver' j ≡ giver j)) where
    look_gap : (j : ℕ) → j < n → reached j ≡ false → GapOf n a l h tree j (gap' j) (giver' j)
    look_gap j hj r =
        let g = w.gaps j hj r in
        let near = ways j hj r in
        record {
          most = omega (arith, near.that, g.most);
          gives = λ lt.
              elim near.one [
                | inl q ↦
                    let old = g.gives (omega (arith, q.0)) in
                    rw (q.0, q.1) (old.0, put_kept p (giver j) old.1, old.2, old.3)
                | inr q ↦ rw q.1 (hr, put_new p, q.0, q.2)
              ];
          least = λ i hi.
              after (λ x y. T y → Present (a x j) → (gap' j < no_gap) × ((a x j +ℤ pos (l x + gap' j)) ≤ℤ h j)) p i (λ e t here. near.this here)
              (λ ne t here.
              let old = g.least i hi t here in (
                omega (arith, near.that, old.0),
                omega (arith, signed, near.that, old.1, plus (a i j) (pos (l i + gap j)), plus (a i j) (pos (l i + gap' j))),
              ));
        }

    pub search_look : Search n a start s b l h ρ κ tree tree reached gap' giver'
    search_look =
        record {
          growing = w.growing;
          grown = record {
            rank = w.grown.rank;
            root = w.grown.root;
            early = w.grown.early;
            row = w.grown.row;
            column = w.grown.column;
            gives = λ j hj r. rw (kept j hj (flag_is (reached j) r)).1 (w.grown.gives j hj r);
          };
          gaps = look_gap;
          done = λ j hj r. (kept j hj r).0 ∙ w.done j hj r;
          heights = w.heights;
        }

  module _ {tree reached : ℕ → Bool} {gap giver : ℕ → ℕ} (w : Search n a start s b l h ρ κ tree tree reached gap giver) (δ : ℕ)
      (least : (j : ℕ) → j < n → reached j ≡ false → δ ≤ gap j) where
    -- ---- no gap: there is no complete transversal (G2)
    pub search_stuck : no_gap ≤ δ → (σ : ℕ → ℕ) → Transversal n a σ → ⊥
    search_stuck wide =
        stuck w.growing.marking w.grown c.inserting
        (λ i j hi hj ti r here. omega (arith, least j hj r, ((w.gaps j hj r).least i hi ti here).0))

    -- ---- a rise by the least gap, that of the column e
    module _ (e : ℕ) (he : e < n) (re : reached e ≡ false) (is : gap e ≡ δ) (lt : δ < no_gap) where
      clear : (i j : ℕ) → i < n → j < n → T (tree i) → reached j ≡ false → Present (a i j) → (a i j +ℤ pos (l i + δ)) ≤ℤ h j
      clear i j hi hj ti r here =
          omega (
            arith,
            signed,
            least j hj r,
            ((w.gaps j hj r).least i hi ti here).1,
            plus (a i j) (pos (l i + gap j)),
            plus (a i j) (pos (l i + δ)),
          )

      from : (giver e < n) × T (tree (giver e)) × Present (a (giver e) e) × (a (giver e) e +ℤ pos (l (giver e) + gap e) ≡ h e)
      from = (w.gaps e he re).gives (omega arith)

      -- a column outside the tree has its row outside the tree, and no head above b and an order
      row_outside : (j : ℕ) → j < n → reached j ≡ false → ρ j < n → tree (ρ j) ≡ false
      row_outside j hj r m = by_flag (tree (ρ j)) (λ t. flag_clash (w.grown.column j hj m (flag_set t)) r) (λ f. f)

      head_low : (j : ℕ) → j < n → reached j ≡ false → h j ≤ℤ pos (b + order_limit)
      head_low j hj r =
          elim (dec_lt (ρ j) n) [
            | yes m ↦
                let t = (w.growing.marking.row j hj m).2 in
                omega (
                  arith,
                  signed,
                  t.is,
                  (c.limits (ρ j) j m hj t.present).high,
                  w.heights.outside (ρ j) m (row_outside j hj r m),
                  plus (a (ρ j) j) (pos (l (ρ j))),
                )
            | no nm ↦
                let f = w.growing.first j hj (omega arith) in
                omega (
                  arith,
                  signed,
                  f.is,
                  (c.limits f.row j f.inside hj f.maximum.present).high,
                  c.handed_in f.row f.inside,
                  plus (a f.row j) (pos (start f.row)),
                )
          ]

      -- the row that gives the least gap comes no higher than that, so no row of the tree does by more than their spread
      pub rise_most : l (giver e) + δ ≤ b + 2 * order_limit
      rise_most =
          omega (
            arith,
            signed,
            from.3,
            head_low e he re,
            (c.limits (giver e) e from.0 he from.2).low,
            plus (a (giver e) e) (pos (l (giver e) + gap e)),
          )

      tree_most : (i : ℕ) → i < n → T (tree i) → l i + δ ≤ b + insertion_rise
      tree_most i hi ti =
          omega (
            arith,
            rise_most,
            w.heights.above i hi ti,
            w.heights.below (giver e) from.0 from.1,
            w.heights.fits,
            c.small,
          )

      module _ {l' : ℕ → ℕ} {h' : ℕ → ℤ} {gap' : ℕ → ℕ} (el : (i : ℕ) → i < n → l' i ≡ l i + share δ (tree i))
          (eh : (j : ℕ) → j < n → h' j ≡ h j +ℤ pos (share δ (reached j))) (eg : (j : ℕ) → j < n → Narrowed δ (gap j) (gap' j)) where
        row_in : (i : ℕ) → i < n → tree i ≡ true → l' i ≡ l i + δ
        row_in i hi t = rw t at (el i hi)

        row_out : (i : ℕ) → i < n → tree i ≡ false → l' i ≡ l i
        row_out i hi t = let q : l' i ≡ l i + 0 = rw t at (el i hi) in omega arith

        head_in : (j : ℕ) → j < n → reached j ≡ true → h' j ≡ h j +ℤ pos δ
        head_in j hj r = rw r at (eh j hj)

        head_out : (j : ℕ) → j < n → reached j ≡ false → h' j ≡ h j
        head_out j hj r = let q : h' j ≡ h j +ℤ pos 0 = rw r at (eh j hj) in omega (arith, signed, plus (h j) (pos 0))

        rise_tight : (i j : ℕ) → i < n → j < n → tree i ≡ reached j → Tight n a l h i j → Tight n a l' h' i j
        rise_tight i j hi hj same t =
            record {
              present = t.present;
              is =
                  let q : l' i ≡ l i + share δ (reached j) = rw same at (el i hi) in
                  omega (
                    arith,
                    signed,
                    t.is,
                    eh j hj,
                    plus (a i j) (pos (l i)),
                    plus (a i j) (pos (l' i)),
                    plus (h j) (pos (share δ (reached j))),
                  );
            }

        rise_under : (i j : ℕ) → i < n → j < n → Present (a i j) → (a i j +ℤ pos (l' i)) ≤ℤ h' j
        rise_under i j hi hj here =
            by_flag (reached j)
            (λ r.
            omega (
              arith,
              signed,
              w.growing.under i j hi hj here,
              el i hi,
              most (tree i),
              head_in j hj r,
              plus (a i j) (pos (l i)),
              plus (a i j) (pos (l' i)),
              plus (h j) (pos δ),
            ))
            (λ r.
            by_flag (tree i)
            (λ t.
            omega (
              arith,
              signed,
              clear i j hi hj (flag_set t) r here,
              row_in i hi t,
              head_out j hj r,
              plus (a i j) (pos (l i + δ)),
              plus (a i j) (pos (l' i)),
            ))
            (λ t.
            omega (
              arith,
              signed,
              w.growing.under i j hi hj here,
              row_out i hi t,
              head_out j hj r,
              plus (a i j) (pos (l i)),
              plus (a i j) (pos (l' i)),
            )))
          where
            most : (x : Bool) → share δ x ≤ δ
            most true = omega arith
            most false = omega arith

        -- a marked place is in the tree with its row and its column, or with neither
        both : (j : ℕ) → j < n → ρ j < n → tree (ρ j) ≡ reached j
        both j hj m =
            by_flag (reached j) (λ r. flag_is (tree (ρ j)) (w.grown.row j hj (flag_set r)).1 ∙ sym r)
            (λ r. row_outside j hj r m ∙ sym r)

        rise_growing : Growing n a start s l' h' ρ κ
        rise_growing =
            record {
              marking = record {
                row = λ j hj m.
                    let r = w.growing.marking.row j hj m in
                    (r.0, r.1, rise_tight (ρ j) j m hj (both j hj m) r.2);
                column = w.growing.marking.column;
              };
              under = rise_under;
              first = λ j hj m.
                  by_flag (reached j) (λ r. absurd (omega (arith, (w.grown.row j hj (flag_set r)).0)))
                  (λ r. rw (head_out j hj r) (w.growing.first j hj m));
              from_start = λ i hi. omega (arith, w.growing.from_start i hi, el i hi);
              least = λ m canon from i hi.
                  by_flag (tree i)
                  (λ t. rw (row_in i hi t) (growth w.growing w.grown δ clear m canon.columns canon.of_maxima from i hi (flag_set t)))
                  (λ t. rw (row_out i hi t) (w.growing.least m canon from i hi));
            }

        rise_gap : (j : ℕ) → j < n → reached j ≡ false → GapOf n a l' h' tree j (gap' j) (giver j)
        rise_gap j hj r =
            let g = w.gaps j hj r in
            record {
              most = elim (dec_lt (gap j) no_gap) [
                | yes q ↦ omega (arith, (eg j hj).less q)
                | no q ↦ omega (arith, (eg j hj).kept (omega (arith, g.most)))
              ];
              gives = λ q.
                  elim (dec_lt (gap j) no_gap) [
                    | yes u ↦
                        let old = g.gives u in (
                          old.0,
                          old.1,
                          old.2,
                          omega (
                            arith,
                            signed,
                            old.3,
                            head_out j hj r,
                            row_in (giver j) old.0 (flag_is (tree (giver j)) old.1),
                            (eg j hj).less u,
                            plus (a (giver j) j) (pos (l (giver j) + gap j)),
                            plus (a (giver j) j) (pos (l' (giver j) + gap' j)),
                          ),
                        )
                    | no u ↦ absurd (omega (arith, (eg j hj).kept (omega (arith, g.most))))
                  ];
              least = λ i hi ti here.
                  let old = g.least i hi ti here in (
                    omega (arith, (eg j hj).less old.0, old.0),
                    omega (
                      arith,
                      signed,
                      old.1,
                      head_out j hj r,
                      row_in i hi (flag_is (tree i) ti),
                      (eg j hj).less old.0,
                      plus (a i j) (pos (l i + gap j)),
                      plus (a i j) (pos (l' i + gap' j)),
                    ),
                  );
            }

        rise_tree : Tree n a s l' h' ρ tree reached giver
        rise_tree =
            record {
              rank = w.grown.rank;
              root = w.grown.root;
              early = w.grown.early;
              row = w.grown.row;
              column = w.grown.column;
              gives = λ j hj r.
                  let g = w.grown.gives j hj r in
                  (g.0, g.1, rise_tight (giver j) j g.0 hj (flag_is (tree (giver j)) g.1 ∙ sym (flag_is (reached j) r)) g.2, g.3);
            }

        rise_heights : Heights n s b l' tree reached
        rise_heights =
            record {
              outside = λ i hi t. rw (row_out i hi t) (w.heights.outside i hi t);
              inside = λ i hi ti. rw (row_in i hi (flag_is (tree i) ti)) (tree_most i hi ti);
              spread = w.heights.spread;
              above = λ i hi ti. omega (arith, row_in i hi (flag_is (tree i) ti), root_in, w.heights.above i hi ti);
              below = λ i hi ti. omega (arith, row_in i hi (flag_is (tree i) ti), root_in, w.heights.below i hi ti);
              fits = w.heights.fits;
            }
          where
            root_in : l' s ≡ l s + δ
            root_in = row_in s c.inserting (flag_is (tree s) w.grown.root)

        pub search_rise : Search n a start s b l' h' ρ κ tree tree reached gap' giver
        search_rise =
            record {
              growing = rise_growing;
              grown = rise_tree;
              gaps = rise_gap;
              done = λ j hj r. (eg j hj).kept (w.done j hj r);
              heights = rise_heights;
            }

        pub rise_meets : (giver e < n) × T (tree (giver e)) × Tight n a l' h' (giver e) e
        rise_meets = (
          from.0,
          from.1,
          record {
            present = from.2;
            is =
                omega (
                  arith,
                  signed,
                  from.3,
                  row_in (giver e) from.0 (flag_is (tree (giver e)) from.1),
                  head_out e he re,
                  plus (a (giver e) e) (pos (l (giver e) + gap e)),
                  plus (a (giver e) e) (pos (l' (giver e))),
                );
          },
        )

  -- ---- the column e is tight for its giver: the tree joins its marked row, or the way back begins
  module _ {tree reached : ℕ → Bool} {gap giver : ℕ → ℕ} (w : Search n a start s b l h ρ κ tree tree reached gap giver) (e : ℕ) (he : e < n)
      (re : reached e ≡ false) (meets : (giver e < n) × T (tree (giver e)) × Tight n a l h (giver e) e) where
    pub search_way : n ≤ ρ e → WayBack n a s l h ρ κ giver e
    search_way free =
        record {
          small = c.small;
          inserted = c.inserting;
          marking = w.growing.marking;
          tree = tree;
          rank = w.grown.rank;
          early = w.grown.early;
          inside = he;
          free = free;
          last = meets;
          link = λ i hi ti.
              let k = w.growing.marking.column i hi in
              let m : ρ (κ i) < n = omega (arith, k.1, c.inserting) in
              rw k.1 at (w.grown.gives (κ i) k.0 (w.grown.column (κ i) k.0 m (rw k.1 ti)));
        }

    module _ (m : ρ e < n) {tree' reached' : ℕ → Bool} {gap' : ℕ → ℕ} (pt : Put tree tree' (ρ e) true) (pr : Put reached reached' e true)
        (pg : Put gap gap' e no_gap) where
      abbrev rank' : ℕ → ℕ
      rank' i = choose (ℕ_discrete i (ρ e)) (suc (w.grown.rank (giver e))) (w.grown.rank i)

      outside : tree (ρ e) ≡ false
      outside = by_flag (tree (ρ e)) (λ t. flag_clash (w.grown.column e he m (flag_set t)) re) (λ f. f)

      fresh : (i : ℕ) → T (tree i) → i ≢ ρ e
      fresh i ti q = flag_clash ti (ap tree q ∙ outside)

      rank_old : (i : ℕ) → i ≢ ρ e → rank' i ≡ w.grown.rank i
      rank_old i ne = choose_no (ℕ_discrete i (ρ e)) (suc (w.grown.rank (giver e))) (w.grown.rank i) ne

      rank_new : rank' (ρ e) ≡ suc (w.grown.rank (giver e))
      rank_new = choose_yes (ℕ_discrete (ρ e) (ρ e)) (suc (w.grown.rank (giver e))) (w.grown.rank (ρ e)) refl

      old : (j : ℕ) → T (reached' j) → j ≢ e → T (reached j)
      old j r ne = rw (pr.off j ne) at r

      other : (j : ℕ) → j < n → ρ j < n → j ≢ e → ρ j ≢ ρ e
      other j hj mj ne q =
          let x = w.growing.marking.row j hj mj in
          let y = w.growing.marking.row e he m in
          ne (sym x.1 ∙ ap κ q ∙ y.1)

      join_gives : (j : ℕ) → j < n → T (reached' j)
          → (giver j < n) × T (tree' (giver j)) × Tight n a l h (giver j) j × (rank' (giver j) < rank' (ρ j))
      join_gives j hj r =
          elim (ℕ_discrete j e) [
            | yes q ↦
                rw q (
                  meets.0,
                  put_kept pt (giver e) meets.1,
                  meets.2,
                  omega (arith, rank_new, rank_old (giver e) (fresh (giver e) meets.1)),
                )
            | no ne ↦
                let o = old j r ne in
                let g = w.grown.gives j hj o in (
                  g.0,
                  put_kept pt (giver j) g.1,
                  g.2,
                  omega (
                    arith,
                    g.3,
                    rank_old (giver j) (fresh (giver j) g.1),
                    rank_old (ρ j) (other j hj (w.grown.row j hj o).0 ne),
                  ),
                )
          ]

      join_tree : Tree n a s l h ρ tree' reached' giver
      join_tree =
          record {
            rank = rank';
            root = put_kept pt s w.grown.root;
            early = λ i hi.
                after (λ x y. T y → x ≤ s) pt i (λ q t. omega (arith, (w.growing.marking.row e he m).0)) (λ ne t. w.grown.early i hi t);
            row = λ j hj r.
                elim (ℕ_discrete j e) [
                  | yes q ↦ rw q (m, put_new pt)
                  | no ne ↦
                      let x = w.grown.row j hj (old j r ne) in
                      (x.0, put_kept pt (ρ j) x.1)
                ];
            column = λ j hj mj t.
                elim (ℕ_discrete j e) [
                  | yes q ↦ rw q (put_new pr)
                  | no ne ↦ put_kept pr j (w.grown.column j hj mj (rw (pt.off (ρ j) (other j hj mj ne)) at t))
                ];
            gives = join_gives;
          }

      -- the row that joins is tight in one column with the giver, so their additions differ by two orders at most
      near : (l (ρ e) ≤ l (giver e) + 2 * order_limit) × (l (giver e) ≤ l (ρ e) + 2 * order_limit)
      near =
          let k = (w.growing.marking.row e he m).2 in
          let x = c.limits (ρ e) e m he k.present in
          let y = c.limits (giver e) e meets.0 he meets.2.present in
          omega (
            arith,
            signed,
            k.is,
            meets.2.is,
            x.low,
            x.high,
            y.low,
            y.high,
            plus (a (ρ e) e) (pos (l (ρ e))),
            plus (a (giver e) e) (pos (l (giver e))),
          )

      join_heights : Heights n s b l tree' reached'
      join_heights =
          record {
            outside = λ i hi f. w.heights.outside i hi (by_flag (tree i) (λ t. flag_clash (put_kept pt i (flag_set t)) f) (λ z. z));
            inside = λ i hi.
                after (λ x y. T y → l x ≤ b + insertion_rise) pt i (λ q t. omega (arith, w.heights.outside (ρ e) m outside))
                (λ ne t. w.heights.inside i hi t);
            spread = w.heights.spread + 2 * order_limit;
            above = λ i hi.
                after (λ x y. T y → l x ≤ l s + (w.heights.spread + 2 * order_limit)) pt i
                (λ q t. omega (arith, near.0, w.heights.above (giver e) meets.0 meets.1)) (λ ne t. omega (arith, w.heights.above i hi t));
            below = λ i hi.
                after (λ x y. T y → l s ≤ l x + (w.heights.spread + 2 * order_limit)) pt i
                (λ q t. omega (arith, near.1, w.heights.below (giver e) meets.0 meets.1)) (λ ne t. omega (arith, w.heights.below i hi t));
            fits = omega (arith, w.heights.fits, unset_fewer n he re pr);
          }

      pub search_join : Search n a start s b l h ρ κ tree tree' reached' gap' giver
      search_join =
          record {
            growing = w.growing;
            grown = join_tree;
            gaps = λ j hj f.
                let ne : j ≢ e = λ q. flag_clash (put_new pr) (rw q at f) in
                rw (pg.off j ne) (w.gaps j hj (sym (pr.off j ne) ∙ f));
            done = λ j hj r.
                after (λ x y. T (reached' x) → y ≡ no_gap) pg j (λ q t. refl) (λ ne t. w.done j hj (flag_is (reached j) (old j t ne))) (flag_set r);
            heights = join_heights;
          }
