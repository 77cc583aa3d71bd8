-- What lines leave of the store and of its disks.
pub use Rattle.plane_step.specs.StoreKept.{StaysOn}
pub use Rattle.plane_step.specs.Faults.{DiskFaults, DiskRose, faults_of}
