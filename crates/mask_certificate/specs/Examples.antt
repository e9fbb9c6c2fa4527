-- Worked examples, computed by the checker.
use Rattle.std.specs.Prelude.{◌≡◌, ℕ, List, [], ◌∷◌, ◌++◌, Ok, Err, codes}
use Rattle.std.proofs.Common.{refl}
use Rattle.std.specs.Fmt.{digits}
use Rattle.mask_certificate.specs.declared.fault.CertFault.TheVariants.{Header, Line, TaskName, MissingTask, Shape}
use Rattle.mask_certificate.specs.CertificateText.{cert_text}
use Rattle.mask_certificate.specs.CertificateReading.{cert_parse}

-- the tasks `A` and `B` of a loop and what follows it, and their certificate: registers 8, 9 and 10 are written in turn
abbrev loop_names : List (List ℕ)
loop_names = codes "A" ∷ codes "B" ∷ []

abbrev loop_cert : List (List (ℕ × ℕ))
loop_cert = ((0, 0x700) ∷ (1, 0x600) ∷ (2, 0x400) ∷ (3, 0) ∷ []) ∷ ((4, 0) ∷ (5, 0) ∷ []) ∷ []

abbrev wide_text : List ℕ
wide_text = codes "cert 2" ++ 10 ∷ (codes "task A" ++ 10 ∷ (codes "0 0000000000000700" ++ 10 ∷ (codes "1 0000000000000600" ++ 10 ∷ (codes "2 0000000000000400" ++ 10 ∷ (codes "3 0000000000000000" ++ 10 ∷ (codes "task B" ++ 10 ∷ (codes "4 0000000000000000" ++ 10 ∷ (codes "5 0000000000000000" ++ 10 ∷ []))))))))

abbrev narrow_text : List ℕ
narrow_text = codes "cert 1" ++ 10 ∷ (codes "task A" ++ 10 ∷ (codes "0 00000700" ++ 10 ∷ (codes "1 00000600" ++ 10 ∷ (codes "2 00000400" ++ 10 ∷ (codes "3 00000000" ++ 10 ∷ (codes "task B" ++ 10 ∷ (codes "4 00000000" ++ 10 ∷ (codes "5 00000000" ++ 10 ∷ []))))))))

pub text_of_loop : cert_text loop_cert loop_names ≡ wide_text
unfolding digits
text_of_loop = refl

pub wide_loop_read : cert_parse wide_text loop_names ≡ Ok loop_cert
wide_loop_read = refl

pub narrow_loop_read : cert_parse narrow_text loop_names ≡ Ok loop_cert
narrow_loop_read = refl

pub no_header : cert_parse (codes "cert 3" ++ 10 ∷ []) loop_names ≡ Err Header
no_header = refl

pub missing_task : cert_parse (codes "cert 1" ++ 10 ∷ (codes "task A" ++ 10 ∷ [])) loop_names ≡ Err MissingTask
missing_task = refl

pub short_mask : cert_parse (codes "cert 1" ++ 10 ∷ (codes "task A" ++ 10 ∷ (codes "0 00000700" ++ 10 ∷ (codes "1 600" ++ 10 ∷ [])))) loop_names ≡ Err (Line 4)
short_mask = refl

pub wrong_name : cert_parse (codes "cert 1" ++ 10 ∷ (codes "task C" ++ 10 ∷ [])) loop_names ≡ Err (TaskName 2)
wrong_name = refl

pub unfinished_line : cert_parse (codes "cert 1" ++ 10 ∷ (codes "task A" ++ 10 ∷ (codes "0 0000070"))) loop_names ≡ Err (Line 3)
unfinished_line = refl

-- an index twice
pub not_rising : cert_parse (codes "cert 1" ++ 10 ∷ (codes "task A" ++ 10 ∷ (codes "1 00000600" ++ 10 ∷ (codes "1 00000600" ++ 10 ∷ [])))) (codes "A" ∷ []) ≡ Err Shape
not_rising = refl

-- an index that no instruction has
pub out_of_code : cert_parse (codes "cert 1" ++ 10 ∷ (codes "task A" ++ 10 ∷ (codes "4096 00000000" ++ 10 ∷ []))) (codes "A" ∷ []) ≡ Err Shape
out_of_code = refl
