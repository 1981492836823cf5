use Rattle.std.proofs.Common.{◌<◌, length, rules}
use Rattle.rh_key_files.specs.Stream.{header_of, state_of, version_of, taken_of, left_of, keys_to_end}
use Rattle.rh_key_files.proofs.Coming.{gives, moved_on}
use Rattle.rh_key_files.proofs.stream.KeyStreamKeySource.next_keys.Goals as goal

pub returns-clause-gives : goal.returns-clause-gives
returns-clause-gives g c =
    let s = c.args.self.now in
    let t = c.next_batch.new.self in
    let ensures = c.next_batch.ensures in
    let some : 0 < length c.next_batch.new.batch = search rules in
    gives (state_of s) (state_of t) (version_of s) (taken_of s) (left_of s) (length c.next_batch.new.batch) _ _ (keys_to_end (version_of t) (taken_of t) (left_of t)) _ _ some
    (λ is_open. (ensures.open is_open).known) (λ is_open. (ensures.open is_open).many) (λ is_open. (ensures.open is_open).goes_on) (λ is_over. (ensures.over is_over).again)
    (λ n is_open is. moved_on (header_of s) (header_of t) (taken_of s) (taken_of t) c.next_batch.result ensures.same_header (ensures.open is_open).taken n is)
