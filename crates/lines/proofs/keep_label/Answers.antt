-- A label is put into its place and compared with those before it. Assumes nothing.
use Rattle.std.proofs.Common.{arith}
use Rattle.lines.proofs.KeepLaws.{compared_label}
use Rattle.lines.proofs.keep_label.Goals as goal

pub returns : goal.returns
returns c = λ ls h e p.
    let put = c.put_label.ensures in
    rw put
    (compared_label c.args.labels.now ls c.args.line.now h p (c.label_stands.ensures.holds c.if-not-label_stands.false) (omega arith)
    c.args.k c.repeated.result e (rw put at c.repeated.ensures))
