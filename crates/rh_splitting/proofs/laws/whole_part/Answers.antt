use Rattle.std.proofs.Common.{append_assoc, codes, length}
use Rattle.rh_bytes.specs.Input.{eight_bytes}
use Rattle.rh_key_files.specs.KeyFile.{spelled_keys}
use Rattle.rh_parts.specs.Parts.{in_part}
use Rattle.rh_splitting.proofs.Given.{keys_in_part}
use Rattle.rh_splitting.proofs.laws.whole_part.Goals as goal

pub returns : goal.returns
returns c = λ keys are few.
    let part = in_part c.args.parts c.args.part keys in
    record {
      spelled = append_assoc (codes "RHK2") (eight_bytes (length part)) (spelled_keys part);
      few = few;
      in_range = keys_in_part c.args.parts c.args.part keys are;
    }
