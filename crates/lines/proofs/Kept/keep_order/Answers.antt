-- An order is put into the table. Assumes nothing.
use Rattle.std.proofs.Common.{◌*◌, arith, sym, ap, ◌∙◌}
use Rattle.sheet.proofs.Lines.{order_once}
use Rattle.fields.proofs.SignedLaws.{order_bits}
use Rattle.lines.proofs.KeepLaws.{orders_only, kept_order}
use Rattle.lines.proofs.Kept.keep_order.Goals as goal

pub returns-in_default : goal.returns-in_default
returns-in_default c = λ k st m h d st' a. let o = orders_only _ _ k m _ st h d st' a in c.in_default.ensures o.0 o.1

pub returns-then-at-self : goal.returns-then-at-self
returns-then-at-self c = λ k st m h d st' a.
    let n = c.args.size.n in
    let o = orders_only _ _ k m _ st h d st' a in
    let p = c.in-Some.field-0 in
    let s = order_once o.0.row o.0.col o.0.order p.row p.col p.order (sym o.1.is ∙ c.in-Some.ensures.is) in
    let row = ap (λ x. x * n) s.row in
    omega (arith, h.next_held, c.if-at-self.true, row, s.col, o.2)

pub returns : goal.returns
returns c = λ k st m h d.
    let o = c.in-Some.ensures in
    rw (order_bits (omega arith) c.in-Some.field-0.order o.order_stands)
    (kept_order _ _ k m _ st h d c.in-Some.field-0 o (omega (arith, h.next_held, c.if-at-self.false)))
