-- How bytes divide into frames and a rest.
use Rattle.std.specs.Prelude.{ℕ, ◌+◌, ◌≡◌, List, [], ◌∷◌, ◌++◌, drop}
use Rattle.ubus_frames.specs.declared.frame.Frame.{Frame}
use Rattle.ubus_frames.specs.declared.frame_error.FrameError.{FrameError}
use Rattle.ubus_frames.specs.Fault.{IsFrameFault}
use Rattle.ubus_frames.specs.Frame.{blob_length_in}
use Rattle.ubus_frames.specs.Layout.{BeginsWithFrame, IsUnfinished}

-- no whole frame begins with the bytes: others are missing, or there is a fault
pub data IsRest (bytes : List ℕ) : Type 0 where
  unfinished : IsUnfinished bytes → IsRest bytes
  faulty : (error : FrameError) → IsFrameFault bytes error → IsRest bytes

-- the bytes behind the frame in front
unfoldable pub behind_frame : List ℕ → List ℕ
behind_frame bytes = drop (8 + blob_length_in bytes) bytes

-- The bytes are frames one after another and the rest: they are a rest, or a whole frame is in
-- front, and what is behind it divides into the others and the rest.
pub data Divides : List ℕ → List Frame → List ℕ → Type 0 where
  none : (bytes : List ℕ) (frames : List Frame) (rest : List ℕ) → IsRest bytes → frames ≡ []
      → rest ≡ bytes → Divides bytes frames rest
  frame : (bytes : List ℕ) (first : Frame) (others frames : List Frame) (rest : List ℕ)
      → BeginsWithFrame bytes first → Divides (behind_frame bytes) others rest
      → frames ≡ first ∷ others → Divides bytes frames rest

-- what a feeder holds: whole frames that were not taken yet, and the bytes behind them
pub record Stream : Type 0 where
  pub frames : List Frame
  pub rest : List ℕ

-- nothing
abbrev pub empty : Stream
empty = record { frames = []; rest = [] }

-- the bytes that were fed and not yet taken are these frames and this rest
abbrev pub Holds : Stream → List ℕ → Type 0
Holds stream bytes = Divides bytes stream.frames stream.rest

-- the piece is behind the rest, and the frames that are now whole are behind the others
pub record Appends (piece : List ℕ) (before after : Stream) : Type 0 where
  pub found : List Frame
  pub divides : Divides (before.rest ++ piece) found after.rest
  pub frames : after.frames ≡ before.frames ++ found

-- the piece is appended, and nothing is at fault before or after
pub record Feeds (piece : List ℕ) (before after : Stream) : Type 0 where
  pub sound : IsUnfinished before.rest
  pub appends : Appends piece before after
  pub goes_on : IsUnfinished after.rest

-- a feed is refused: the fault that was there before stands and nothing is appended, or the piece
-- is appended, and has brought a fault
pub data Refuses (piece : List ℕ) (before after : Stream) (error : FrameError) : Type 0 where
  stands : IsFrameFault before.rest error → after ≡ before → Refuses piece before after error
  comes : IsUnfinished before.rest → Appends piece before after → IsFrameFault after.rest error
      → Refuses piece before after error

-- the frame is taken, and the others stay
pub record Takes (frame : Frame) (before after : Stream) : Type 0 where
  pub frames : before.frames ≡ frame ∷ after.frames
  pub rest : after.rest ≡ before.rest

-- how a feeder got to what it holds: the bytes that were appended in all, the frames that were taken
pub data Reaches : List ℕ → List Frame → Stream → Type 0 where
  new : (bytes : List ℕ) (taken : List Frame) (now : Stream) → bytes ≡ [] → taken ≡ []
      → now ≡ empty → Reaches bytes taken now
  fed : (bytes piece all : List ℕ) (taken : List Frame) (before now : Stream)
      → Reaches bytes taken before → Appends piece before now → all ≡ bytes ++ piece
      → Reaches all taken now
  took : (bytes : List ℕ) (first : Frame) (taken more : List Frame) (before now : Stream)
      → Reaches bytes taken before → Takes first before now → more ≡ taken ++ first ∷ []
      → Reaches bytes more now
