-- What is taken of a client's input. `came` says of bytes that they stood next in it, and were taken.
use Rattle.std.specs.Prelude.{◌≡◌, ◌≢◌, ◌++◌, ℕ, List, [], length}
use Rattle.nbd_protocol.specs.declared.handshake.OptionHeader.{OptionHeader}
use Rattle.nbd_protocol.specs.declared.request.Request.{Request}
use Rattle.nbd_protocol.specs.Layout.{IsOption, IsRequest, option_bytes, request_bytes}

-- some bytes, this many
pub record TakesSome (count : ℕ) (came : List ℕ → Type 0) : Type 0 where
  pub bytes : List ℕ
  pub long : length bytes ≡ count
  pub next : came bytes

-- the bytes of this request
pub record TakesRequest (came : List ℕ → Type 0) (r : Request) : Type 0 where
  pub bytes : List ℕ
  pub long : length bytes ≡ request_bytes
  pub is : IsRequest bytes r
  pub next : came bytes

-- the bytes after this request: for a write as many as it says, and else none
pub record TakesPayload (r : Request) (came : List ℕ → Type 0) (bytes : List ℕ) : Type 0 where
  pub long : r.command ≡ 1 → length bytes ≡ r.length
  pub none : r.command ≢ 1 → bytes ≡ []
  pub next : came bytes

-- the data of an option, this many bytes, with this property
pub record TakesData (came : List ℕ → Type 0) (count : ℕ) (its : List ℕ → Type 0) : Type 0 where
  pub data_bytes : List ℕ
  pub long : length data_bytes ≡ count
  pub holds : its data_bytes
  pub next : came data_bytes

-- an option of this number with its data
pub record TakesOption (came : List ℕ → Type 0) (option : ℕ) (its : List ℕ → Type 0) : Type 0 where
  pub header : OptionHeader
  pub head : List ℕ
  pub data_bytes : List ℕ
  pub long : length head ≡ option_bytes
  pub is : IsOption head header
  pub option_is : option ≡ header.option
  pub data_long : length data_bytes ≡ header.length
  pub holds : its data_bytes
  pub next : came (head ++ data_bytes)

-- these bytes are options, each with as many bytes of data as it says
pub data AreOptions : List ℕ → Type 0 where
  NoOption : AreOptions []
  Further : (before head data_bytes all : List ℕ) (header : OptionHeader) → AreOptions before → length head ≡ option_bytes → IsOption head header →
      length data_bytes ≡ header.length → all ≡ before ++ (head ++ data_bytes) → AreOptions all

-- some options
pub record TakesOptions (came : List ℕ → Type 0) : Type 0 where
  pub bytes : List ℕ
  pub whole : AreOptions bytes
  pub next : came bytes

-- a client's flags and some options: requests follow them
pub record TakesHandshake (came : List ℕ → Type 0) : Type 0 where
  pub flags : List ℕ
  pub options : List ℕ
  pub four : length flags ≡ 4
  pub whole : AreOptions options
  pub next : came (flags ++ options)
