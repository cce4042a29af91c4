pub mod ByteInFront
pub mod BytesStored
