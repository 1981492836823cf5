use Rattle.std.proofs.Common.{[], ◌≤◌, length, refl, rules}
use Rattle.rh_layout.specs.declared.limits.TheConstants.{MAX_KEYS}
use Rattle.rh_numbers.proofs.reading.Reading.take.Goals as goal

pub returns-then-len-ge-MAX_KEYS-clause-keys : goal.returns-then-len-ge-MAX_KEYS-clause-keys
returns-then-len-ge-MAX_KEYS-clause-keys c =
    let full : MAX_KEYS ≤ length c.args.self.now.keys.items = search rules in
    (full, c.args.key, [], refl)
