use Rattle.std.proofs.Common.{◌≡◌, ◌∙◌, ◌+◌, ◌≤◌, ◌++◌, ◌∷◌, [], suc, length, map, take, sym, ap, ap₂, subst, arith}
use Rattle.std.proofs.lemmas.List.{map-append, length-map}
use Rattle.cayley.specs.declared.points.Support.{Support}
use Rattle.cayley.specs.Stored.{file_point, point}
use Rattle.cayley.specs.Files.{resting}
use Rattle.cayley.specs.Paths.{corners}
use Rattle.start_system.specs.Corners.{ArePoints}
use Rattle.start_system.proofs.Making.Entries.{take_next}
use Rattle.start_system.proofs.Making.Parts.{few, heights_at, counted_at, parts_at, support_more, support_end}
use Rattle.start_system.proofs.paths.path_supports.Goals as goal

pub path_points-requires-clause-dimension : goal.path_points-requires-clause-dimension
path_points-requires-clause-dimension c =
    let xs = c.args.supports.now in
    let ys = c.args.starts.now in
    let y = c.index-starts-place.result in
    let h = heights_at (λ s. map file_point s.items) (λ s. s.items) xs ys c.requires c.loop-place.place y c.loop-place-test.true c.index-starts-place.is in
    let n = few (λ s. map file_point s.items) (λ s. s.items) xs ys c.requires in
    let e : c.deref-in-loop-place.result.now ≡ y.items = c.deref-in-loop-place.ensures.value in
    subst (λ l. length l ≤ 15) (sym e) (omega (arith, h, n))

pub path_points-requires-clause-greatest : goal.path_points-requires-clause-greatest
path_points-requires-clause-greatest c =
    let xs = c.args.supports.now in
    let ys = c.args.starts.now in
    let y = c.index-starts-place.result in
    let l = c.loop-place-test.true in
    let h = heights_at (λ s. map file_point s.items) (λ s. s.items) xs ys c.requires c.loop-place.place y l c.index-starts-place.is in
    let e : c.deref-in-loop-place.result.now ≡ y.items = c.deref-in-loop-place.ensures.value in
    subst (λ z. c.loop-place.place + 1 ≤ suc (length z)) (sym e) (omega (arith, h, l))

pub path_points-requires-clause-points : goal.path_points-requires-clause-points
path_points-requires-clause-points c =
    let xs = c.args.supports.now in
    let ys = c.args.starts.now in
    let x = c.index-supports-place.result in
    let y = c.index-starts-place.result in
    let h = heights_at (λ s. map file_point s.items) (λ s. s.items) xs ys c.requires c.loop-place.place y c.loop-place-test.true c.index-starts-place.is in
    let d : c.deref.result.now ≡ x.items = c.deref.ensures.value in
    let e : c.deref-in-loop-place.result.now ≡ y.items = c.deref-in-loop-place.ensures.value in
    subst (λ z. ArePoints (suc (length c.deref-in-loop-place.result.now)) (map file_point z)) (sym d)
    (parts_at (λ s. map file_point s.items) (λ s. s.items) xs ys c.requires c.loop-place.place (suc (length c.deref-in-loop-place.result.now)) x c.loop-place-test.true c.index-supports-place.is (ap (λ z. suc (length z)) e ∙ h))

pub overflow_cast-file : goal.overflow_cast-file
overflow_cast-file c =
    let xs = c.args.supports.now in
    let ys = c.args.starts.now in
    let x = c.index-supports-place-in-loop-place.result in
    let h = counted_at (λ s. map file_point s.items) (λ s. s.items) xs ys c.requires c.loop-place.place x c.loop-place-test.true c.index-supports-place-in-loop-place.is in
    let l = length-map x.items file_point in
    let e = c.len-file.ensures in
    let o = x.ok.0 in
    omega (arith, h, l, e, o)

pub loop-place-preserved : goal.loop-place-preserved
loop-place-preserved c =
    let xs = c.args.supports.now in
    let ys = c.args.starts.now in
    let x = c.index-supports-place.result in
    let y = c.index-starts-place.result in
    let w = c.index-supports-place-in-loop-place.result in
    let made = c.loop-place.made.items in
    let d : c.deref.result.now ≡ x.items = c.deref.ensures.value in
    let e : c.deref-in-loop-place.result.now ≡ y.items = c.deref-in-loop-place.ensures.value in
    let is = c.in_ok-points.ensures ∙ ap₂ (λ a b. map resting (map file_point a) ++ corners (c.loop-place.place + 1) (map file_point a) b) d e in
    let counted : c.len-file.result ≡ length w.items = (let a = c.len-file.ensures in let b = w.ok.0 in omega (arith, a, b)) in
    record {
      files = ap (map (λ (s : Support). s.file)) c.in_ok-push.ensures ∙ map-append (λ (s : Support). s.file) made _
          ∙ ap₂ (λ a b. a ++ (b ∷ [])) c.loop-place.invariant.files counted
          ∙ sym (ap (map (λ s. length s.items)) (take_next xs c.loop-place.place w c.loop-place-test.true ∙ ap (λ z. take c.loop-place.place xs ++ (z ∷ [])) (sym c.index-supports-place-in-loop-place.is))
          ∙ map-append (λ s. length s.items) (take c.loop-place.place xs) (w ∷ []));
      points = ap (map (λ (s : Support). map point s.points.items)) c.in_ok-push.ensures ∙ map-append (λ (s : Support). map point s.points.items) made _
          ∙ support_more (λ s. map file_point s.items) (λ s. s.items) xs ys c.requires c.loop-place.place x y (map (λ (s : Support). map point s.points.items) made) _ c.loop-place-test.true
          c.index-supports-place.is c.index-starts-place.is is c.loop-place.invariant.points;
    }

pub returns-clause-points : goal.returns-clause-points
returns-clause-points c = support_end (λ s. map file_point s.items) (λ s. s.items) c.args.supports.now c.args.starts.now c.requires c.loop-place.place _ c.loop-place.invariant.points c.loop-place-test.false
