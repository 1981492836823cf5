use Rattle.std.proofs.Common.{◌≡◌, refl, replicate}
use Rattle.rh_bytes.specs.Input.{eight_bytes}
use Rattle.rh_key_files.proofs.Written.{eight_written, header_written}
use Rattle.rh_key_files.proofs.encoding.write_header.Goals as goal

pub returns : goal.returns
returns g c =
    let count : c.write_u64.new.buf ≡ eight_bytes c.args.count = eight_written _ (replicate 8 0) _ refl c.write_u64.ensures in
    header_written _ _ _ c.args.count _ _ c.write_texts.result c.magic.ensures count c.write_texts.ensures
