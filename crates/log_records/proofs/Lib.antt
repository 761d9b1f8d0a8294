pub mod FieldLaws
pub mod RecordLaws
mod Many
mod Puts
mod RecordSteps
mod FrameSteps
mod AllSteps
pub mod ScanLaws
