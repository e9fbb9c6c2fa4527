-- Worked examples, computed by the checker: what is reported about a file that is not written, and what of a mode stays.
use Rattle.std.specs.Prelude.{◌≡◌, codes}
use Rattle.std.specs.declared.io.ErrorKind.TheVariants as kind
use Rattle.std.proofs.Common.{refl}
use Rattle.result_files.specs.Refusals.{unwritten_of, unwritten_words}
use Rattle.result_files.specs.Rights.{permission_bits}

-- the folder of `out/a.s` does not exist
pub no_folder : unwritten_words (unwritten_of kind.NotFound) ≡ codes "no such folder"
no_folder = refl

pub taken : unwritten_words (unwritten_of kind.AlreadyExists) ≡ codes "the new file's name is taken"
taken = refl

-- a plain file of mode 4777 (octal), which runs as its owner: the new one has mode 777
pub no_set_user_id : permission_bits 35327 ≡ 511
no_set_user_id = refl

-- of mode 640
pub rights_stay : permission_bits 33184 ≡ 416
rights_stay = refl
