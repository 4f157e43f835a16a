-- The bytes of NBD, fixed newstyle. Source: proto.md of the nbd project.
use Rattle.std.specs.Prelude.{◌≡◌, ◌≤◌, ℕ, ◌+◌, ◌*◌, List, [], ◌∷◌, ◌++◌, length, take, drop, Bool, if◌then◌else◌}
use Rattle.byteorder.specs.Endian.{big_bytes, big_number}
use Rattle.nbd_protocol.specs.declared.request.Request.{Request}
use Rattle.nbd_protocol.specs.declared.handshake.OptionHeader.{OptionHeader}

-- the big-endian number in the n bytes from place `at`
abbrev pub number_at : ℕ → ℕ → List ℕ → ℕ
number_at at n bytes = big_number n (drop at bytes)

abbrev pub request_bytes : ℕ
request_bytes = 28

abbrev pub reply_bytes : ℕ
reply_bytes = 16

abbrev pub option_bytes : ℕ
option_bytes = 16

abbrev pub option_reply_bytes : ℕ
option_reply_bytes = 20

abbrev pub name_reply_bytes : ℕ
name_reply_bytes = 24

abbrev pub fact_reply_bytes : ℕ
fact_reply_bytes = 22

-- the most data bytes of an option
abbrev pub most_data : ℕ
most_data = 8192

-- the magics of a request and of a simple reply
abbrev pub request_magic : ℕ
request_magic = 0x25609513

abbrev pub reply_magic : ℕ
reply_magic = 0x67446698

-- the magics of an option, "IHAVEOPT", and of the reply to one
abbrev pub option_magic : ℕ
option_magic = 0x49484156454f5054

abbrev pub option_reply_magic : ℕ
option_reply_magic = 0x3e889045565a9

-- these bytes begin a request
abbrev pub IsRequest : List ℕ → Request → Type 0
IsRequest bytes r =
    (number_at 0 4 bytes ≡ request_magic)
    × (r.flags ≡ number_at 4 2 bytes)
    × (r.command ≡ number_at 6 2 bytes)
    × (r.cookie ≡ number_at 8 8 bytes)
    × (r.offset ≡ number_at 16 8 bytes)
    × (r.length ≡ number_at 24 4 bytes)

-- a simple reply, without the bytes of a read
abbrev pub simple_reply : ℕ → ℕ → List ℕ
simple_reply error cookie = big_bytes 4 reply_magic ++ big_bytes 4 error ++ big_bytes 8 cookie

-- a server's greeting: "NBDMAGIC", "IHAVEOPT", and its flags
abbrev pub greeting : ℕ → List ℕ
greeting flags = big_bytes 8 0x4e42444d41474943 ++ big_bytes 8 option_magic ++ big_bytes 2 flags

-- these bytes begin an option
abbrev pub IsOption : List ℕ → OptionHeader → Type 0
IsOption bytes o = (number_at 0 8 bytes ≡ option_magic) × (o.option ≡ number_at 8 4 bytes) × (o.length ≡ number_at 12 4 bytes)

-- the reply to an option, without the bytes that follow
abbrev pub option_reply : ℕ → ℕ → ℕ → List ℕ
option_reply option kind length =
    big_bytes 8 option_reply_magic ++ big_bytes 4 option ++ big_bytes 4 kind ++ big_bytes 4 length

-- the reply to LIST that names an export, without the name; it takes the name's length
abbrev pub name_reply : ℕ → List ℕ
name_reply length = option_reply 3 2 (length + 4) ++ big_bytes 4 length

-- the reply that tells a fact of an export, without the fact; it takes the fact's length
abbrev pub fact_reply : ℕ → ℕ → ℕ → List ℕ
fact_reply option fact length = option_reply option 3 (length + 2) ++ big_bytes 2 fact

-- an export's flags: it has flags, takes flushes, FUA, trims and writes of zeros, and may be read-only
abbrev pub flags_of_export : Bool → ℕ
flags_of_export read_only = if read_only then 1 + 2 + 4 + 8 + 32 + 64 else 1 + 4 + 8 + 32 + 64

-- an export's size and flags
abbrev pub export_of : ℕ → ℕ → List ℕ
export_of size flags = big_bytes 8 size ++ big_bytes 2 flags

-- the least, best and greatest block size
abbrev pub block_sizes : ℕ → ℕ → ℕ → List ℕ
block_sizes least best most = big_bytes 4 least ++ big_bytes 4 best ++ big_bytes 4 most

-- the length of the name in the data of INFO or GO
abbrev pub name_length : List ℕ → ℕ
name_length bytes = number_at 0 4 bytes

-- the data of INFO or GO: a name's length, the name, a count, and this many 16-bit numbers of wanted facts
pub record IsQuestion (bytes name wanted : List ℕ) : Type 0 where
  pub name_fits : 4 + name_length bytes + 2 ≤ length bytes
  pub name_is : name ≡ take (name_length bytes) (drop 4 bytes)
  pub wanted_is : wanted ≡ drop (6 + name_length bytes) bytes
  pub counted : length wanted ≡ 2 * number_at (4 + name_length bytes) 2 bytes
