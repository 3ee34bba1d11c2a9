-- Requests: the codes and times of the paper, each stated once, and the bytes of a request.
use Rattle.std.specs.Prelude.{ℕ, cond, List, [], ◌∷◌, ◌++◌, ltb, eqb, length}
use Rattle.paper.specs.Outcome.{Outcome, gives, refuse_if}
use Rattle.paper.specs.Refusals.{number_of}
use Rattle.paper.specs.Sum.{sum_of}
use Rattle.paper.specs.declared.refusal.Refusal.TheVariants.{CodeNotPermitted}
use Rattle.wire.specs.declared.request.Kind.{Kind}
use Rattle.wire.specs.declared.request.Kind.TheVariants.{Stop, Reset, Scan, ForceScan, GetInfo, GetHealth, Other}

abbrev pub stop_code : ℕ
stop_code = 0x25

abbrev pub reset_code : ℕ
reset_code = 0x40

abbrev pub scan_code : ℕ
scan_code = 0x20

abbrev pub force_scan_code : ℕ
force_scan_code = 0x21

abbrev pub get_info_code : ℕ
get_info_code = 0x50

abbrev pub get_health_code : ℕ
get_health_code = 0x52

-- the byte that begins a request and a descriptor
abbrev pub start_byte : ℕ
start_byte = 0xA5

-- after STOP the next request is sent so many milliseconds later or more, and after RESET
abbrev pub stop_wait : ℕ
stop_wait = 1

abbrev pub reset_wait : ℕ
reset_wait = 2

-- how many milliseconds after its A5 a byte still belongs to a packet
abbrev pub packet_time : ℕ
packet_time = 5000

-- which of the six a code is
unfoldable pub kind_of : ℕ → Kind
kind_of code =
    cond (eqb code stop_code) Stop
    (cond (eqb code reset_code) Reset
    (cond (eqb code scan_code) Scan
    (cond (eqb code force_scan_code) ForceScan
    (cond (eqb code get_info_code) GetInfo
    (cond (eqb code get_health_code) GetHealth
    Other)))))

-- bytes, and the exclusive or of all of them
unfoldable pub with_sum : List ℕ → List ℕ
with_sum xs = xs ++ sum_of xs ∷ []

-- Codes below 0x80 carry no payload and are two bytes long; codes from 0x80 carry a size byte, 0 to 255 payload bytes and a checksum.
unfoldable pub request_of : ℕ → List ℕ → Outcome (List ℕ)
request_of code payload =
    cond (ltb code 0x80)
    (refuse_if (ltb 0 (length payload)) (number_of CodeNotPermitted) (gives (start_byte ∷ code ∷ [])))
    (refuse_if (ltb 255 (length payload)) (number_of CodeNotPermitted) (gives (with_sum (start_byte ∷ code ∷ length payload ∷ payload))))
