use Rattle.std.proofs.Common.{◌≡◌, ◌<◌, Some, length, take, drop, get_or, refl, suc, subst, rules}
use Rattle.std.proofs.lemmas.Option.{slice_get_read}
use Rattle.std.specs.Prelude.{slice_get}
use Rattle.rh_parts.specs.Parts.{part_of}
use Rattle.rh_splitting.specs.Parts.{EachGot}
use Rattle.rh_splitting.proofs.Given.{both_given, failed_behind, failed_here, is_full, key_at, one_given, one_more, still_given}
use Rattle.rh_splitting.proofs.splitting.split_keys.Goals as goal

pub returns-in-Err-Full : goal.returns-in-Err-Full
returns-in-Err-Full g c =
    let keys = c.args.keys.now in
    let i = c.loop-key.key-index in
    let inside : i < length keys = search rules in
    let there : slice_get c.loop-key.parts c.part_of-part.result ≡ Some c.index-parts-part.result = slice_get_read c.loop-key.parts (length c.loop-key.parts) _ _ refl (search rules) c.index-parts-part.is in
    let place : part_of (length c.args.parts.now) (get_or keys i 0) ≡ c.part_of-part.result = search rules in (
      take i keys,
      get_or keys i 0,
      (drop (suc i) keys, key_at keys i inside),
      place,
      still_given _ _ c.loop-key.parts _ _ _ _ c.loop-key.invariant.given there (search rules),
      is_full c.loop-key.parts _ _ _ there (search rules) (search rules),
    )

pub returns-in-Err-Write : goal.returns-in-Err-Write
returns-in-Err-Write g c =
    let keys = c.args.keys.now in
    let i = c.loop-key.key-index in
    let inside : i < length keys = search rules in
    let there : slice_get c.loop-key.parts c.part_of-part.result ≡ Some c.index-parts-part.result = slice_get_read c.loop-key.parts (length c.loop-key.parts) _ _ refl (search rules) c.index-parts-part.is in
    let place : part_of (length c.args.parts.now) (get_or keys i 0) ≡ c.part_of-part.result = search rules in (
      take i keys,
      get_or keys i 0,
      (drop (suc i) keys, key_at keys i inside),
      place,
      failed_behind _ _ c.loop-key.parts _ _ (get_or keys i 0) _ c.loop-key.invariant.given (failed_here _ c.loop-key.parts _ _ _ _ there (search rules)),
    )

pub loop-key-preserved : goal.loop-key-preserved
loop-key-preserved g c =
    let keys = c.args.keys.now in
    let i = c.loop-key.key-index in
    let inside : i < length keys = search rules in
    let there : slice_get c.loop-key.parts c.part_of-part.result ≡ Some c.index-parts-part.result = slice_get_read c.loop-key.parts (length c.loop-key.parts) _ _ refl (search rules) c.index-parts-part.is in
    let place : part_of (length c.loop-key.parts) (get_or keys i 0) ≡ c.part_of-part.result = search rules in
    record {
      given = subst (EachGot g.W.Write.contents c.args.parts.now _) (one_more keys i inside)
          (both_given _ _ c.loop-key.parts _ _ _ c.loop-key.invariant.given (one_given _ c.loop-key.parts _ (get_or keys i 0) _ _ there place (search rules)));
    }
