use Rattle.std.proofs.Common.{◌*◌, arith, mul-pos, pos_of_ne-zero, ap}
use Rattle.wide_int.proofs.Quotients.{less, same, turned}
use Rattle.wide_int.proofs.euclid.+compare_quotients.Goals as goal

pub returns-then-p-q : goal.returns-then-p-q
returns-then-p-q t c = less c.args.a c.args.b c.args.c c.args.d c.requires.first c.requires.second c.if-p-q.true

pub returns-then-q-p : goal.returns-then-q-p
returns-then-q-p t c = less c.args.c c.args.d c.args.a c.args.b c.requires.second c.requires.first c.if-q-p.true

pub returns-then-s-eq0 : goal.returns-then-s-eq0
returns-then-s-eq0 t c =
    let e = same c.args.a c.args.b c.args.c c.args.d c.if-p-q.false c.if-q-p.false in
    let r = c.if-r-eq0.true in let s = c.if-s-eq0.true in
    let rz = ap (λ n. n * c.args.d) r in
    let sz = ap (λ n. n * c.args.b) s in
    omega (arith, e.0, e.1, rz, sz)

pub returns-else-s-eq0 : goal.returns-else-s-eq0
returns-else-s-eq0 t c =
    let e = same c.args.a c.args.b c.args.c c.args.d c.if-p-q.false c.if-q-p.false in
    let rz = ap (λ n. n * c.args.d) c.if-r-eq0.true in
    let sp = mul-pos (pos_of_ne-zero c.if-s-eq0.false) c.requires.first in
    omega (arith, e.0, e.1, rz, sp)

pub returns-then-s-eq0-2 : goal.returns-then-s-eq0-2
returns-then-s-eq0-2 t c =
    let e = same c.args.a c.args.b c.args.c c.args.d c.if-p-q.false c.if-q-p.false in
    let sz = ap (λ n. n * c.args.b) c.if-s-eq0-2.true in
    let rp = mul-pos (pos_of_ne-zero c.if-r-eq0.false) c.requires.second in
    omega (arith, e.0, e.1, sz, rp)

pub returns-else-s-eq0-2 : goal.returns-else-s-eq0-2
returns-else-s-eq0-2 t c =
    let e = same c.args.a c.args.b c.args.c c.args.d c.if-p-q.false c.if-q-p.false in
    turned c.compare_quotients.result c.args.a c.args.b c.args.c c.args.d _ _ _ e.0 e.1 c.compare_quotients.ensures
