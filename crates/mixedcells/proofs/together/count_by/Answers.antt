use Rattle.std.proofs.Common.{◌≡◌, length, refl, rules}
use Rattle.mixedcells.proofs.AlongPaths.{found_counted}
use Rattle.mixedcells.proofs.together.count_by.Goals as goal

pub returns-in-Ok : goal.returns-in-Ok
returns-in-Ok g c =
    let count : c.len.result ≡ length c.in-Ok.found.cells.items = search rules in
    found_counted c.args.file.now c.in-Ok.found _ (rw c.in-Ok.is at c.walk_by.ensures) (search rules) count refl
