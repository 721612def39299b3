mod Parts
mod Forms
