-- What the feeder keeps, and finds.
use Rattle.std.specs.Prelude.{ℕ, ◌+◌, ◌≡◌, ◌≢◌, ◌≤◌, List, ◌++◌, take, drop, length, Option, Some, None}
use Rattle.ubus_frames.specs.declared.frame.Frame.{Frame}
use Rattle.ubus_frames.specs.declared.frame_error.FrameError.{FrameError}
use Rattle.ubus_frames.specs.declared.frame_error.FrameError.TheVariants.{Memory}
use Rattle.ubus_frames.specs.declared.feeder.Found.{Found}
use Rattle.ubus_frames.specs.declared.feeder.Front.{Front}
use Rattle.ubus_frames.specs.Fault.{IsFrameFault}
use Rattle.ubus_frames.specs.Frame.{blob_length_in}
use Rattle.ubus_frames.specs.Layout.{BeginsWithFrame, IsUnfinished}
use Rattle.ubus_frames.specs.Stream.{Divides, behind_frame}

-- the fault that the rest has, or none where it is unfinished
pub data IsFaultOf (rest : List ℕ) (fault : Option FrameError) : Type 0 where
  no_fault : fault ≡ None → IsUnfinished rest → IsFaultOf rest fault
  a_fault : (error : FrameError) → fault ≡ Some error → error ≢ Memory → IsFrameFault rest error
      → IsFaultOf rest fault

-- the frame in front, and what is behind it
pub record HasFront (bytes : List ℕ) (front : Front) : Type 0 where
  pub begins : BeginsWithFrame bytes front.frame
  pub size_is : front.size ≡ 8 + blob_length_in bytes
  pub behind_is : front.behind.now ≡ behind_frame bytes

-- the frames in front of a rest at `at`: into whatever the rest divides, the whole does into them
-- and that
pub record StreamSoFar (at : ℕ) (bytes rest : List ℕ) (frames : List Frame) : Type 0 where
  pub place : rest ≡ drop at bytes
  pub room : at + length rest ≡ length bytes
  pub sound : (others : List Frame) (end : List ℕ) → Divides rest others end
      → Divides bytes (frames ++ others) end

-- the frames that were found so far stand behind the others
pub record PushesSoFar (at : ℕ) (bytes rest : List ℕ) (others after : List Frame) : Type 0 where
  pub found : List Frame
  pub frames : after ≡ others ++ found
  pub so_far : StreamSoFar at bytes rest found

-- the frames in front of the bytes stand behind the others; how many bytes they take, and the fault behind them
pub record HasFound (bytes : List ℕ) (others after : List Frame) (front : Found) : Type 0 where
  pub found : List Frame
  pub frames : after ≡ others ++ found
  pub room : front.size ≤ length bytes
  pub divides : Divides bytes found (drop front.size bytes)
  pub fault : IsFaultOf (drop front.size bytes) front.fault

-- the others stand in front
abbrev pub StandInFront : List Frame → List Frame → Type 0
StandInFront others after = take (length others) after ≡ others

-- the frames in front of the bytes went to the end of the others, and the rest has this fault
pub record Moves (others after : List Frame) (bytes rest : List ℕ) (fault : Option FrameError) : Type 0 where
  pub found : List Frame
  pub divides : Divides bytes found rest
  pub frames : after ≡ others ++ found
  pub fault_is : IsFaultOf rest fault
