use Rattle.std.proofs.Common.{◌<◌, arith}
use Rattle.rh_words.specs.Parts.{row_count, row_index, word_count}
use Rattle.rh_words.proofs.IndexLemmas.{row_inside}
use Rattle.rh_words.proofs.shape.Shape.row_word.Goals as goal

pub returns-clause-within : goal.returns-clause-within
returns-clause-within c =
    let z = c.args.self.now in
    let inside = row_inside c.args.worker z.workers c.args.row (row_count z) c.requires.worker c.requires.row in
    let fits : row_index z c.args.worker c.args.row < word_count z = omega (arith, inside) in
    rw (c.cells.ensures, c.rows.ensures) fits
